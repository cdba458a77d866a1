-- A step of a seat that stands for one thread keeps the rule.
use Rattle.std.proofs.Common.{◌≡◌, ◌≢◌, ℕ, ◌≤◌, List, [], ◌∷◌, length, get_or, set, sym, ap, ◌∙◌, subst, arith}
use mathlib.Core.Option.{some}
use lib.ListN.{get_elem?}
use Rattle.atomic_table.specs.Table.{keeps, stepped}
use Rattle.heap_words.specs.declared.map.Areas.{Areas}
use Rattle.yak_model.specs.declared.history.Entry.{Entry}
use Rattle.safepoint_gate.specs.declared.rule.Own.{Own}
use Rattle.safepoint_gate.specs.declared.rule.View.{View}
use Rattle.safepoint_gate.specs.Rule.{AllMine, AllRest, AreByThread, CountsSeats, IsUnderway, OneHistory, Mine, StandsOpen, Underway, closed, hidden, moving, present, stands_for, times}
use Rattle.safepoint_gate.proofs.Flying.{Beside, each, times_at}
use Rattle.safepoint_gate.proofs.Keeps.{St, changes, other_fits}
use Rattle.safepoint_gate.proofs.Totals.{total_two}

module _ (m : Areas) where
  -- The seat's one thread acts, and no other seat has closed the gate. That owes the count, what the thread and the others have
  -- and know then, and words that stand open.
  pub acts : (s : St) (k : OneHistory m s) (id : ℕ) (v w : View) (cs : List (ℕ × Unit {0})) (i n : ℕ) (words : List ℕ) (history : List Entry) (o p : Own) (now : Underway) → get_elem? s.views id ≡ some v
      → v.own ≡ o ∷ [] → w.own ≡ p ∷ [] → p.thread ≡ o.thread → w.map ≡ m
      → closed w ≡ 0 → present w ≤ 1 → (moving w ≡ 0 → AllRest w.own × (w.lasting ≡ []))
      → ((j : ℕ) (x : View) → j ≢ id → get_elem? s.views j ≡ some x → closed x ≡ 0)
      → ((q : Own) → o.thread ≢ q.thread → Mine m k.history q → Mine m history q)
      → Mine m history p → IsUnderway m now w.lasting p → AreByThread m now.flights → Beside m k.underway now v.own
      → CountsSeats (get_or (set s.words i n) 0 0) (set s.views id w)
      → hidden (set s.words i n) ≡ words
      → StandsOpen m words history now
      → OneHistory m (stepped s i n id cs w keeps)
  acts s k id v w cs i n words history o p now at own becomes same map_is open_ single rests others beside_mine mine call by beside counted hides fine =
      let f = k.fits id v at in
      let own_at : get_elem? v.own 0 ≡ some o = ap (λ z. get_elem? z 0) own in
      changes m s k id v w cs i n words history now at counted
      (λ t. ap (times t) becomes ∙ (ap (λ (x : ℕ). times t (record o { thread = x } ∷ [])) same ∙ sym (ap (times t) own)))
      (ap length becomes ∙ sym (ap length own))
      hides
      by
      record {
        map_is = λ _. map_is;
        single = let l = ap length becomes in omega arith;
        mine = subst (AllMine m history) (sym becomes) (each (Mine m history) p mine);
        calls = subst (λ (l : List Own). (x : ℕ) (q : Own) → get_elem? l x ≡ some q → IsUnderway m now w.lasting q) (sym becomes) (each (IsUnderway m now w.lasting) p call);
        rests = rests;
        knows = λ e. absurd (omega arith);
      }
      (λ j x apart there g. let z = others j x apart there in
      other_fits m s k id j v x words history now at apart there beside g
      (λ l q q_at. beside_mine q (λ same'.
      let once = times_at x.own l q q_at in
      let twice = total_two (stands_for q.thread) s.views id j v x (λ b. apart (sym b)) at there in
      let here = times_at v.own 0 o own_at in
      let there' : times o.thread v.own ≡ times q.thread v.own = ap (λ y. times y v.own) same' in
      let most = k.once q.thread (g.mine l q q_at).thread in
      absurd (omega arith)) (g.mine l q q_at))
      (λ e. absurd (omega arith)))
      (λ _. fine)
