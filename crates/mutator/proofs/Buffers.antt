-- What a step behind the closed gate leaves of the store buffers.
use Rattle.std.proofs.Common.{◌≡◌, ℕ, zero, suc, ◌-◌, List, [], ◌∷◌, Bool, true, false, length, get_or, refl, ap, arith}
use Rattle.object_layout.specs.declared.calls.Call.{Call}
use Rattle.object_layout.specs.declared.calls.Call.TheVariants as call
use Rattle.object_layout.specs.declared.replies.Reply.{Reply}
use Rattle.object_layout.specs.declared.replies.Reply.TheVariants as reply
use Rattle.heap_words.specs.declared.map.Areas.{Areas}
use Rattle.heap_words.specs.Contents.{Contents}
use Rattle.yak_model.specs.Spaces.{SpaceState}
use Rattle.yak_model.specs.Continued.{Explains}
use Rattle.yak_model.specs.Stands.{Stands}
use Rattle.yak_model.specs.declared.history.Entry.{Entry}
use Rattle.forwarding.specs.Crossing.{AreFiled}
use Rattle.heap_core.specs.declared.owned.Stepped.{Stepped}
use Rattle.heap_core.specs.Done.{Done, StepRecords}
use Rattle.safepoint_gate.specs.Steps.{KeepBuffers}
use Rattle.mutator.specs.Calls.{IsClosedCall}

none_in : (buffers : List (List ℕ)) (k : ℕ) → AreFiled buffers → get_or buffers k [] ≡ []
none_in [] k all = refl
none_in (b ∷ buffers) zero all = all 0 [] (omega arith)
none_in (b ∷ buffers) (suc k) all = none_in buffers k (λ j d lt. all (suc j) d (omega (arith, lt)))

pub filed_keep : (m : Areas) (was now : Contents) → AreFiled now.buffers → KeepBuffers m was now
filed_keep m was now filed t thread = let none = ap (λ (b : List ℕ). length b) (none_in now.buffers (t - 1) filed) in omega (arith, none)

pub same_keep : (m : Areas) (was now : Contents) → now.buffers ≡ was.buffers → KeepBuffers m was now
same_keep m was now same t thread = let e = ap (λ (bs : List (List ℕ)). length (get_or bs (t - 1) [])) same in omega (arith, e)

records_keep : (m : Areas) (was now : Contents) (s : SpaceState) (h : Stands m was s) (t : ℕ) (asked : Call) (said : Reply) (collected : Bool) → IsClosedCall asked → StepRecords m was now s h t asked said collected → KeepBuffers m was now
records_keep m was now s h t (call.New k) said false is r = same_keep m was now r.buffers
records_keep m was now s h t (call.New k) said true is r = filed_keep m was now r.files.filed
records_keep m was now s h t call.End (reply.Ended moved tight) false is r = filed_keep m was now r.0.filed
records_keep m was now s h t call.End (reply.Ended moved tight) true is r = filed_keep m was now r.0.filed
records_keep m was now s h t call.End (reply.Refused why) collected is r = same_keep m was now r.buffers
records_keep m was now s h t call.End reply.Ok collected is r = same_keep m was now r.buffers
records_keep m was now s h t call.End reply.Null collected is r = same_keep m was now r.buffers
records_keep m was now s h t call.End (reply.Int i) collected is r = same_keep m was now r.buffers
records_keep m was now s h t call.End (reply.Object k) collected is r = same_keep m was now r.buffers
records_keep m was now s h t call.End reply.Yes collected is r = same_keep m was now r.buffers
records_keep m was now s h t call.End reply.No collected is r = same_keep m was now r.buffers
records_keep m was now s h t call.End reply.OutOfHeap collected is r = same_keep m was now r.buffers
records_keep m was now s h t call.End (reply.Pages free region control) collected is r = same_keep m was now r.buffers
records_keep m was now s h t call.Collect said collected is r = filed_keep m was now r.files.filed
records_keep m was now s h t call.Census said collected is r = same_keep m was now r.buffers
records_keep m was now s h t (call.Int i) said collected is r = absurd is
records_keep m was now s h t call.Null said collected is r = absurd is
records_keep m was now s h t (call.Dup i) said collected is r = absurd is
records_keep m was now s h t call.Pop said collected is r = absurd is
records_keep m was now s h t (call.Load i f) said collected is r = absurd is
records_keep m was now s h t (call.Store i f x) said collected is r = absurd is
records_keep m was now s h t (call.Get i) said collected is r = absurd is
records_keep m was now s h t (call.Same i x) said collected is r = absurd is
records_keep m was now s h t call.Begin said collected is r = absurd is

-- a step of a call behind the closed gate makes no store buffer longer
pub done_keeps : (m : Areas) (was now : Contents) (history : List Entry) (t : ℕ) (asked : Call) (said : Stepped) → IsClosedCall asked → Explains m was history → Done m was now t asked said → KeepBuffers m was now
done_keeps m was now history t asked said is known done =
    records_keep m was now known.state known.stands t asked said.reply said.collected is (done.records known.state known.stands known.recorded)
