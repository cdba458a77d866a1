-- How a thread makes an object.
use Rattle.std.specs.Prelude.{◌≡◌, ◌⊎◌, ℕ, ◌+◌, true, Some, None}
use Rattle.object_layout.specs.declared.calls.Call.TheVariants.{New}
use Rattle.object_layout.specs.declared.replies.Census.{Census}
use Rattle.object_layout.specs.declared.replies.Refusal.{Refusal}
use Rattle.object_layout.specs.declared.replies.Reply.{Reply}
use Rattle.object_layout.specs.declared.replies.Reply.TheVariants.{Ok, OutOfHeap, Refused}
use Rattle.object_layout.specs.declared.TheConstants.{OBJECT_WORDS}
use Rattle.heap_words.specs.declared.map.Areas.{Areas}
use Rattle.heap_words.specs.Contents.{Contents}
use Rattle.heap_core.specs.declared.owned.Stepped.{Stepped}
use Rattle.standing_calls.specs.Room.{HasNoRoom}
use Rattle.heap_core.specs.Steps.{plain}
use Rattle.standing_calls.specs.Turned.{Turned}
use Rattle.heap_core.specs.Collecting.{CountsFull, IsCollected}

-- The call was refused, or the object was made without a collection.
pub record MadeAtOnce (m : Areas) (was now : Contents) (t k : ℕ) (said : Stepped) : Type 0 where
  pub reply : Reply
  pub answer : (reply ≡ Ok) ⊎ ((why : Refusal) × (reply ≡ Refused why))
  pub turned : Turned m was now t (New k) reply
  pub says : said ≡ plain reply

-- A collection was made, and then the object.
pub record MadeAfter (m : Areas) (was now : Contents) (t k : ℕ) (said : Stepped) : Type 0 where
  pub between : Contents
  pub collected : IsCollected m was between t
  pub turned : Turned m between now t (New k) Ok
  pub says : said ≡ record { reply = Ok; collected = true; full = None; shortage = None }

-- A collection was made, after which the object has no room either.
pub record FullAfter (m : Areas) (was now : Contents) (t k : ℕ) (said : Stepped) : Type 0 where
  pub collected : IsCollected m was now t
  pub none : HasNoRoom m now t (k + OBJECT_WORDS)
  pub turned : Turned m now now t (New k) OutOfHeap
  pub pages : Census
  pub counts : CountsFull now pages
  pub says : said ≡ record { reply = OutOfHeap; collected = true; full = Some pages; shortage = None }

-- What a call that makes an object does: a collection is made exactly where the object has no room at the call.
abbrev pub IsMade : Areas → Contents → Contents → ℕ → ℕ → Stepped → Type 0
IsMade m was now t k said =
    MadeAtOnce m was now t k said
    ⊎ (HasNoRoom m was t (k + OBJECT_WORDS) × (MadeAfter m was now t k said ⊎ FullAfter m was now t k said))
