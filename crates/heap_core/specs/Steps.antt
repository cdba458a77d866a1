-- What a step of a thread says, and its entries in the history.
use Rattle.std.specs.Prelude.{ℕ, List, [], ◌∷◌, cond, false, None}
use Rattle.object_layout.specs.declared.calls.Call.{Call}
use Rattle.object_layout.specs.declared.replies.Reply.{Reply}
use Rattle.yak_model.specs.declared.history.Entry.{Entry}
use Rattle.yak_model.specs.declared.history.Entry.TheVariants.{Said, Collected}
use Rattle.heap_core.specs.declared.owned.Stepped.{Stepped}

-- A step that says no more than its reply.
abbrev pub plain : Reply → Stepped
plain said = record { reply = said; collected = false; full = None; shortage = None }

-- The entries of a step in the history: the call with its reply, after the collection that it made.
abbrev pub entries : ℕ → Call → Stepped → List Entry
entries thread call stepped = cond stepped.collected (Collected thread ∷ Said thread call stepped.reply ∷ []) (Said thread call stepped.reply ∷ [])
