-- What calls behind the closed gate do.
use Rattle.std.specs.Prelude.{◌≡◌, ◌≢◌, ℕ, List, [], ◌++◌, MatchOption}
use Rattle.heap_words.specs.Contents.{buffer_of, contents}
use Rattle.object_layout.specs.declared.calls.Call.{Call}
use Rattle.object_layout.specs.declared.calls.Call.TheVariants.{New, End, Collect, Census}
use Rattle.object_layout.specs.declared.replies.Reply.{Reply}
use Rattle.object_layout.specs.declared.replies.Reply.TheVariants.{OutOfHeap}
use Rattle.yak_model.specs.Standing.{MayCollect}
use Rattle.calls_in_flight.specs.declared.notes.Known.{Known}
use Rattle.calls_in_flight.specs.Flight.{at_rest}
use Rattle.safepoint_gate.specs.Singles.{Says}
use Rattle.yak_model.specs.Continued.{Explains, StandsStill}
use Rattle.yak_model.specs.declared.history.Entry.TheVariants.{Said}
use Rattle.yak_model.specs.Graph.{Thread, standard_limits}
use Rattle.yak_model.specs.Private.{BecomesKnown, KnownObjects}
use Rattle.heap_core.specs.declared.owned.Stepped.{Stepped}
use Rattle.heap_core.specs.Done.{Done}
use Rattle.heap_core.specs.Steps.{entries}
use Rattle.safepoint_gate.specs.declared.rule.Place.TheVariants.{Inside}
use Rattle.safepoint_gate.specs.declared.rule.View.{View}
use Rattle.safepoint_gate.specs.Rule.{AllMine}
use Rattle.safepoint_gate.specs.Steps.{first_known, first_thread, flushed, told}

-- A call that a thread makes behind the closed gate.
abbrev pub IsClosedCall : Call → Type 0
IsClosedCall (New k) = Unit {0}
IsClosedCall End = Unit {0}
IsClosedCall Collect = Unit {0}
IsClosedCall Census = Unit {0}
IsClosedCall asked = ⊥

-- The thread of the view v made a call behind the closed gate, with this outcome, and has the view w then. Its own list has the
-- entries of the call more, and between the words of the closing and those of the opening all is done that a step does. The one
-- history explained the words of the closing and left the thread what it had, and with the entries it explains those of the opening, in whose state the thread has
-- what it has, and it knows what the call made of the objects that it alone knew.
pub record MakesCall (v w : View) (asked : Call) (said : Stepped) : Type 0 where
  pub has : Thread
  pub known : KnownObjects
  pub map_is : w.map ≡ v.map
  pub place_is : w.place ≡ Inside
  pub own : w.own ≡ told v.own (entries (first_thread v.own) asked said) has known (w.history ++ entries (first_thread v.own) asked said)
  pub done : Done w.map (contents w.map w.closing) (contents w.map w.words) (first_thread v.own) asked said
  pub closing : Explains w.map (contents w.map w.closing) w.history
  pub was : AllMine w.map w.history v.own
  pub explains : Explains w.map (contents w.map w.words) (w.history ++ entries (first_thread v.own) asked said)
  pub becomes : BecomesKnown standard_limits w.map.threads w.history (first_thread v.own) (first_known v.own) (Said (first_thread v.own) asked said.reply) known
  pub mine : AllMine w.map (w.history ++ entries (first_thread v.own) asked said) w.own

-- The thread of the view v made a call with this outcome, by whichever way, and has the view w then, with no call in flight. Its own
-- list has the entries of the call more. The counts of the pages are told exactly where the heap was full, and then no page was
-- free.
pub record Makes (v : View) (asked : Call) (said : Stepped) (w : View) : Type 0 where
  pub loads : List Known
  pub put : ℕ
  pub says : Says v (record { call = asked; reply = said.reply; collected = said.collected }) (at_rest (first_thread v.own)) loads put w.own
  pub map_is : w.map ≡ v.map
  pub place_is : w.place ≡ Inside
  pub may : MayCollect said.collected asked said.reply
  pub full : MatchOption said.full (said.reply ≢ OutOfHeap) (λ counts. (said.reply ≡ OutOfHeap) × (counts.free ≡ 0) × ((k : ℕ) × (asked ≡ New k)))

-- Such a call behind the closed gate had this reply.
abbrev pub MakesReply : View → View → Call → Reply → Type 0
MakesReply v w asked reply = (said : Stepped) × (reply ≡ said.reply) × MakesCall v w asked said

-- The thread filed all store buffers behind the closed gate. It has no entry more, its own buffer is empty and it has put nothing
-- there since, and the words stand for the same state.
pub record FlushesBuffers (v w : View) : Type 0 where
  pub map_is : w.map ≡ v.map
  pub place_is : w.place ≡ Inside
  pub own : w.own ≡ flushed v.own
  pub still : StandsStill w.map (contents w.map w.closing) (contents w.map w.words)
  pub filed : buffer_of (contents w.map w.words) (first_thread v.own) ≡ []
  pub closing : Explains w.map (contents w.map w.closing) w.history
  pub explains : Explains w.map (contents w.map w.words) w.history
