-- Calls that are followed in the one history.
use Rattle.std.proofs.Common.{◌≡◌, ◌≢◌, ◌⊎◌, inl, inr, ℕ, ◌+◌, ◌-◌, ◌^◌, min, Bool, true, false, List, [], ◌∷◌, ◌++◌, length, refl, sym, ap, ◌∙◌, subst, arith, add-zero}
use Rattle.std.proofs.Math.Logic.{∥∥₁_map}
use Rattle.std.proofs.lemmas.List.{append_assoc, append-nil}
use Rattle.std.proofs.lemmas.List.Sums.{sum_by-append, sum_by-cons}
use Rattle.heap_words.specs.declared.map.Areas.{Areas}
use Rattle.object_layout.specs.declared.calls.Call.{Call}
use Rattle.object_layout.specs.declared.calls.Call.TheVariants as call
use Rattle.object_layout.specs.declared.replies.Reply.{Reply}
use Rattle.object_layout.specs.declared.replies.Reply.TheVariants as reply
use Rattle.yak_model.specs.declared.history.Entry.{Entry}
use Rattle.yak_model.specs.declared.history.Entry.TheVariants.{Said, Collected}
use Rattle.yak_model.specs.Standing.{Counted, Standing, counted_on, entries_of, words_made}
use Rattle.safepoint_gate.specs.declared.rule.Own.{Own}
use Rattle.safepoint_gate.specs.Rule.{GoesOn}
use Rattle.safepoint_gate.specs.Steps.{first_thread}
use Rattle.mutator.specs.Callers.{IsAtEnd, first_past}
use Rattle.group_jobs.specs.Followed.{EndsWith, Follows, IsSettled, entry_made, entry_refused, made_in, refused_in}

-- ---- histories that go on

pub goes_same : (a : List Entry) → GoesOn a a
goes_same a = ([], sym (append-nil a))

pub goes_further : (a b c : List Entry) → GoesOn a b → GoesOn b c → GoesOn a c
goes_further a b c one two = (one.0 ++ two.0, two.1 ∙ ap (λ l. l ++ two.0) one.1 ∙ append_assoc a one.0 two.0)

-- ---- the words of what is made

pub made_cat : (a b : List Entry) → made_in (a ++ b) ≡ made_in a + made_in b
made_cat a b = sum_by-append entry_made a b

made_entries : (collected : Bool) (t : ℕ) (asked : Call) (said : Reply) → made_in (entries_of collected t asked said) ≡ words_made asked said
made_entries true t asked said = let a = sum_by-cons entry_made (Collected t) (Said t asked said ∷ []) in let b = sum_by-cons entry_made (Said t asked said) [] in omega arith
made_entries false t asked said = let b = sum_by-cons entry_made (Said t asked said) [] in omega arith

counted_cases : (m n b x w M : ℕ) → min (m + b) M ≡ min (0 + x) M → n ≡ min (m + w) M → min (n + b) M ≡ min (0 + (x + w)) M
counted_cases m n b x w M r q = omega (arith, r, q)

pub counts_more : (made now begun : ℕ) (was calls : List Entry) (collected : Bool) (t : ℕ) (asked : Call) (said : Reply)
    → counted_on made begun ≡ counted_on 0 (made_in was) → now ≡ counted_on made (words_made asked said) → calls ≡ was ++ entries_of collected t asked said
    → counted_on now begun ≡ counted_on 0 (made_in calls)
counts_more made now begun was calls collected t asked said counts words is =
    let sum : made_in calls ≡ made_in was + words_made asked said = ap made_in is ∙ made_cat was (entries_of collected t asked said) ∙ ap (λ n. made_in was + n) (made_entries collected t asked said) in
    counted_cases made now begun (made_in was) (words_made asked said) (2 ^ 64 - 1) counts words ∙ ap (λ n. min (0 + n) (2 ^ 64 - 1)) (sym sum)

-- ---- calls that found no room

refused_cat : (a b : List Entry) → refused_in (a ++ b) ≡ refused_in a + refused_in b
refused_cat a b = sum_by-append entry_refused a b

refused_entries : (collected : Bool) (t : ℕ) (asked : Call) (said : Reply) → refused_in (entries_of collected t asked said) ≡ entry_refused (Said t asked said)
refused_entries true t asked said = let a = sum_by-cons entry_refused (Collected t) (Said t asked said ∷ []) in let b = sum_by-cons entry_refused (Said t asked said) [] in omega arith
refused_entries false t asked said = let b = sum_by-cons entry_refused (Said t asked said) [] in omega arith

not_refused : (t : ℕ) (asked : Call) (said : Reply) → said ≢ reply.OutOfHeap → entry_refused (Said t asked said) ≡ 0
not_refused t asked reply.OutOfHeap other = absurd (other refl)
not_refused t (call.New k) reply.Ok other = refl
not_refused t (call.New k) reply.Null other = refl
not_refused t (call.New k) (reply.Int i) other = refl
not_refused t (call.New k) (reply.Object n) other = refl
not_refused t (call.New k) reply.Yes other = refl
not_refused t (call.New k) reply.No other = refl
not_refused t (call.New k) (reply.Ended moved tight) other = refl
not_refused t (call.New k) (reply.Pages free region control) other = refl
not_refused t (call.New k) (reply.Refused why) other = refl
not_refused t (call.Int i) said other = refl
not_refused t call.Null said other = refl
not_refused t (call.Dup i) said other = refl
not_refused t call.Pop said other = refl
not_refused t (call.Load i f) said other = refl
not_refused t (call.Store i f x) said other = refl
not_refused t (call.Get i) said other = refl
not_refused t (call.Same i x) said other = refl
not_refused t call.Begin said other = refl
not_refused t call.End said other = refl
not_refused t call.Collect said other = refl
not_refused t call.Census said other = refl

out_or_not : (said : Reply) → (said ≡ reply.OutOfHeap) ⊎ (said ≢ reply.OutOfHeap)
out_or_not reply.OutOfHeap = inl refl
out_or_not reply.Ok = inr (λ e. cc)
out_or_not reply.Null = inr (λ e. cc)
out_or_not (reply.Int i) = inr (λ e. cc)
out_or_not (reply.Object n) = inr (λ e. cc)
out_or_not reply.Yes = inr (λ e. cc)
out_or_not reply.No = inr (λ e. cc)
out_or_not (reply.Ended moved tight) = inr (λ e. cc)
out_or_not (reply.Pages free region control) = inr (λ e. cc)
out_or_not (reply.Refused why) = inr (λ e. cc)

refused_cases : (m n b x M : ℕ) → min (m + b) M ≡ min (0 + x) M → n ≡ min (m + 1) M → min (n + b) M ≡ min (0 + (x + 1)) M
refused_cases m n b x M r q = omega (arith, r, q)

pub refuses_more : (s after : Standing) (begun : ℕ) (was calls : List Entry) (collected : Bool) (asked : Call) (said : Reply)
    → counted_on s.refusals begun ≡ counted_on 0 (refused_in was) → Counted s asked said after → calls ≡ was ++ entries_of collected s.thread asked said
    → counted_on after.refusals begun ≡ counted_on 0 (refused_in calls)
refuses_more s after begun was calls collected asked said refuses counted is = elim (out_or_not said) [
  | inl out ↦
      let full = counted.full out in
      let one : entry_refused (Said s.thread asked said) ≡ 1 = (λ i. entry_refused (Said s.thread (full.1.2 i) (out i))) in
      refused_cases s.refusals after.refusals begun (refused_in was) (2 ^ 64 - 1) refuses full.0 ∙ ap (λ n. min (0 + n) (2 ^ 64 - 1)) (sym (sum ∙ ap (λ n. refused_in was + n) one))
  | inr other ↦
      ap (λ n. counted_on n begun) (counted.other other).0 ∙ refuses
      ∙ ap (λ n. min (0 + n) (2 ^ 64 - 1)) (sym (sum ∙ ap (λ n. refused_in was + n) (not_refused s.thread asked said other) ∙ add-zero (refused_in was)))
]
  where
    sum : refused_in calls ≡ refused_in was + entry_refused (Said s.thread asked said)
    sum = ap refused_in is ∙ refused_cat was (entries_of collected s.thread asked said) ∙ ap (λ n. refused_in was + n) (refused_entries collected s.thread asked said)

-- ---- a call more

ends_said : (before : List Entry) (collected : Bool) (t : ℕ) (asked : Call) (said : Reply) → EndsWith t (before ++ entries_of collected t asked said)
ends_said before true t asked said = inr (before ++ Collected t ∷ [], Said t asked said, refl, sym (append_assoc before (Collected t ∷ []) (Said t asked said ∷ [])))
ends_said before false t asked said = inr (before, Said t asked said, refl, refl)

settled_then : (m : Areas) (old own : List Own) (asked : Call) (said : Reply) → length own ≡ 1 → first_thread own ≡ first_thread old → IsAtEnd m old own asked said → IsSettled m own
settled_then m old own asked said one thread call = record {
  one = one;
  state = call.state;
  leaves = call.leaves;
  mine = call.mine;
  ends = subst (λ h. EndsWith (first_thread own) h) (sym call.past)
      (subst (λ t. EndsWith t (call.before ++ entries_of call.collected (first_thread old) asked said)) (sym thread) (ends_said call.before call.collected (first_thread old) asked said));
}

pub follows_more : (m n : Areas) (begun old own : List Own) (asked : Call) (said : Reply) → length own ≡ 1 → first_thread own ≡ first_thread old → IsAtEnd n old own asked said → ∥ Follows m begun old ∥₁ → ∥ Follows n begun own ∥₁
follows_more m n begun old own asked said one thread call was = ∥∥₁_map was (λ h. record {
  goes_on = goes_further (first_past begun) (first_past old) (first_past own) h.goes_on
      (goes_further (first_past old) call.before (first_past own) call.goes_on (entries_of call.collected (first_thread old) asked said, call.past));
  settled = settled_then n old own asked said one thread call;
})

-- no call yet
pub follows_none : (m : Areas) (begun own : List Own) → begun ≡ own → ∥ IsSettled m own ∥₁ → ∥ Follows m begun own ∥₁
follows_none m begun own same settled = ∥∥₁_map settled (λ h. record { goes_on = subst (λ (l : List Own). GoesOn (first_past l) (first_past own)) (sym same) (goes_same (first_past own)); settled = h })
