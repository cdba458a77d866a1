-- The entries of the end of an epoch.
use Rattle.std.proofs.Common.{◌≡◌, ℕ, ◌<◌, Bool, false, cond, leb, MatchOption, List, Option, None, Some, ap, subst, arith}
use Rattle.std.proofs.lemmas.Bool.Decides.{nat_tests}
use Rattle.object_layout.specs.declared.calls.Call.TheVariants as call
use Rattle.object_layout.specs.declared.replies.Refusal.TheVariants as refusal
use Rattle.object_layout.specs.declared.replies.Reply.{Reply}
use Rattle.object_layout.specs.declared.replies.Reply.TheVariants as reply
use Rattle.yak_model.specs.declared.history.Entry.{Entry}
use Rattle.yak_model.specs.Graph.{Does, Graph, Thread, answers, thread_of}
use Rattle.yak_model.specs.Private.{KnownObjects}
use Rattle.yak_model.specs.Standing.{AddsEntries, Counted, MovesKnown, Standing, entries_of}
use Rattle.heap_tables.specs.Epochs.{GrowsBy, IsEnd}

-- The end of an epoch that is open isn't refused.
said_ended : (g h : Graph) (t : ℕ) (said : Reply) → 0 < (thread_of g t).depth → answers g t call.End said h → (moved : ℕ) × (tight : Bool) × (said ≡ reply.Ended moved tight)
said_ended g h t said deep answer =
    (subst (λ b. MatchOption (cond b (Some refusal.NoEpoch) None) (Does g t call.End said h) (λ why. (said ≡ reply.Refused why) × (h ≡ g))) (not_none (thread_of g t).depth deep) answer).0
  where
    not_none : (d : ℕ) → 0 < d → leb d 0 ≡ false
    not_none d h = grind (arith, nat_tests)

ended_entries : (t : ℕ) (said : Reply) (list after : Option (List Entry)) → (moved : ℕ) × (tight : Bool) × (said ≡ reply.Ended moved tight) → AddsEntries t call.End said list after → GrowsBy (IsEnd t) list after
ended_entries t said None after ended adds = adds
ended_entries t said (Some list) after ended adds = (entries_of adds.0 t call.End said, adds.1, (adds.0, ended.0, ended.1, ap (entries_of adds.0 t call.End) ended.2))

pub ended_list : (s after : Standing) (known : KnownObjects) (said : Reply) (own : Thread) (knows : KnownObjects → Type 0) → 0 < s.own.depth → Counted s call.End said after → MovesKnown s known call.End said own knows
    → GrowsBy (IsEnd s.thread) s.list after.list
ended_list s after known said own knows deep counted moves =
    ended_entries s.thread said s.list after.list
    (said_ended moves.before moves.later s.thread said (let d = ap (λ (o : Thread). o.depth) moves.own in omega arith) moves.moves.1)
    counted.list
