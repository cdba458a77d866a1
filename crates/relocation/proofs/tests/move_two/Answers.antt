use Rattle.std.proofs.Common.{◌≡◌, ◌≢◌, ◌⊎◌, ℕ, ◌+◌, ◌*◌, ◌≤◌, ◌<◌, Bool, true, false, cond, Option, Some, None, List, [], ◌∷◌, length, get_or, set, eqb, refl, sym, ap, subst, ◌∙◌, arith, inl, inr, length-set, get_or-set_same, get_or-set_other}
use Rattle.std.proofs.lemmas.Bool.{cases_eq, eqb-false}
use Rattle.std.proofs.Math.Logic.{⊎_elim}
use Rattle.heap_words.specs.declared.map.Areas.{Areas}
use Rattle.heap_words.specs.Map.{IsAreas, heap_length}
use Rattle.heap_words.specs.Contents.{Contents}
use Rattle.heap_words.proofs.Contents.{contents-get_heap, length-heap}
use Rattle.epoch_lattice.specs.Lattice.{space_index}
use Rattle.epoch_lattice.specs.declared.Space.TheVariants.{Control, Region}
use Rattle.std.specs.List.{All}
use Rattle.std.proofs.lemmas.List.Elements.{All-cons, All-nil}
use Rattle.object_layout.specs.declared.names.Name.{Name}
use Rattle.object_layout.specs.declared.TheConstants.{MAX_FIELDS, MAX_SPACE, OBJECT_WORDS}
use Rattle.yak_model.specs.declared.datum.Datum.TheVariants.{Object}
use Rattle.yak_model.specs.State.{IsDatum, State, Thing}
use Rattle.yak_model.specs.Placed.{StandsAt, same_name}
use Rattle.yak_model.specs.Packed.{IsSpaceOf}
use Rattle.yak_model.specs.Plans.{IsInOnePage, Move, forward, forwarded}
use Rattle.yak_model.proofs.Placed.{same_name-true}
use Rattle.relocation.specs.Moves.{heap_of, scratch_of, move_at, corrected_word, IsReadyPlan, Numbered}
use Rattle.relocation.proofs.Planned.{numbered-kept}
use Rattle.relocation.proofs.tests.move_two.Goals as goal

-- what was written before the references are corrected
abbrev two_objects : List ℕ → ℕ → ℕ → List ℕ
two_objects h x y = set (set (set (set (set (set (set (set (set (set h 10 65537) 11 1) 12 0) 13 42) 20 65537) 21 2) 22 0) 23 22) 12 x) 22 y

skip : (h : List ℕ) (i k v : ℕ) → eqb k i ≡ false → get_or (set h i v) k 0 ≡ get_or h k 0
skip h i k v e = get_or-set_other h i k v 0 (eqb-false k i e)

first_field : (h : List ℕ) (x y : ℕ) → 24 ≤ length h → get_or (two_objects h x y) 13 0 ≡ 42
first_field h x y fits =
    let s1 : List ℕ = set h 10 65537 in
    let s2 : List ℕ = set s1 11 1 in
    let s3 : List ℕ = set s2 12 0 in
    let s4 : List ℕ = set s3 13 42 in
    let s5 : List ℕ = set s4 20 65537 in
    let s6 : List ℕ = set s5 21 2 in
    let s7 : List ℕ = set s6 22 0 in
    let s8 : List ℕ = set s7 23 22 in
    let s9 : List ℕ = set s8 12 x in
    let s10 : List ℕ = set s9 22 y in
    let long : 13 < length s3 = rw (length-set s2 12 0, length-set s1 11 1, length-set h 10 65537) (omega arith) in
    skip s9 22 13 y refl ∙ skip s8 12 13 x refl ∙ skip s7 23 13 22 refl ∙ skip s6 22 13 0 refl ∙ skip s5 21 13 2 refl ∙ skip s4 20 13 65537 refl ∙ get_or-set_same s3 13 42 0 long

second_field : (h : List ℕ) (x y v : ℕ) → 24 ≤ length h → get_or (set (two_objects h x y) 13 v) 23 0 ≡ 22
second_field h x y v fits =
    let s1 : List ℕ = set h 10 65537 in
    let s2 : List ℕ = set s1 11 1 in
    let s3 : List ℕ = set s2 12 0 in
    let s4 : List ℕ = set s3 13 42 in
    let s5 : List ℕ = set s4 20 65537 in
    let s6 : List ℕ = set s5 21 2 in
    let s7 : List ℕ = set s6 22 0 in
    let s8 : List ℕ = set s7 23 22 in
    let s9 : List ℕ = set s8 12 x in
    let s10 : List ℕ = set s9 22 y in
    let s11 : List ℕ = set s10 13 v in
    let long : 23 < length s7 = rw (length-set s6 22 0, length-set s5 21 2, length-set s4 20 65537, length-set s3 13 42, length-set s2 12 0, length-set s1 11 1, length-set h 10 65537) (omega arith) in
    skip s10 13 23 v refl ∙ skip s9 22 23 y refl ∙ skip s8 12 23 x refl ∙ get_or-set_same s7 23 22 0 long

first_header : (h : List ℕ) (x y v w : ℕ) → 24 ≤ length h → get_or (set (set (two_objects h x y) 13 v) 23 w) 10 0 ≡ 65537
first_header h x y v w fits =
    let s1 : List ℕ = set h 10 65537 in
    let s2 : List ℕ = set s1 11 1 in
    let s3 : List ℕ = set s2 12 0 in
    let s4 : List ℕ = set s3 13 42 in
    let s5 : List ℕ = set s4 20 65537 in
    let s6 : List ℕ = set s5 21 2 in
    let s7 : List ℕ = set s6 22 0 in
    let s8 : List ℕ = set s7 23 22 in
    let s9 : List ℕ = set s8 12 x in
    let s10 : List ℕ = set s9 22 y in
    let s11 : List ℕ = set s10 13 v in
    let s12 : List ℕ = set s11 23 w in
    let long : 10 < length h = omega arith in
    skip s11 23 10 w refl ∙ skip s10 13 10 v refl ∙ skip s9 22 10 y refl ∙ skip s8 12 10 x refl ∙ skip s7 23 10 22 refl ∙ skip s6 22 10 0 refl ∙ skip s5 21 10 2 refl ∙ skip s4 20 10 65537 refl ∙ skip s3 13 10 42 refl ∙ skip s2 12 10 0 refl ∙ skip s1 11 10 1 refl ∙ get_or-set_same h 10 65537 0 long

second_header : (h : List ℕ) (x y v w : ℕ) → 24 ≤ length h → get_or (set (set (two_objects h x y) 13 v) 23 w) 20 0 ≡ 65537
second_header h x y v w fits =
    let s1 : List ℕ = set h 10 65537 in
    let s2 : List ℕ = set s1 11 1 in
    let s3 : List ℕ = set s2 12 0 in
    let s4 : List ℕ = set s3 13 42 in
    let s5 : List ℕ = set s4 20 65537 in
    let s6 : List ℕ = set s5 21 2 in
    let s7 : List ℕ = set s6 22 0 in
    let s8 : List ℕ = set s7 23 22 in
    let s9 : List ℕ = set s8 12 x in
    let s10 : List ℕ = set s9 22 y in
    let s11 : List ℕ = set s10 13 v in
    let s12 : List ℕ = set s11 23 w in
    let long : 20 < length s4 = rw (length-set s3 13 42, length-set s2 12 0, length-set s1 11 1, length-set h 10 65537) (omega arith) in
    skip s11 23 20 w refl ∙ skip s10 13 20 v refl ∙ skip s9 22 20 y refl ∙ skip s8 12 20 x refl ∙ skip s7 23 20 22 refl ∙ skip s6 22 20 0 refl ∙ skip s5 21 20 2 refl ∙ get_or-set_same s4 20 65537 0 long

-- one of two
one_of_two : (k : ℕ) (P : ℕ → Type 0) → k < 2 → P 0 → P 1 → P k
one_of_two k P lt zero one = ⊎_elim
    (λ (e : k ≡ 0). subst P (sym e) zero)
    (λ (ne : k ≡ 0 → ⊥). let e : k ≡ 1 = omega arith in subst P (sym e) one)
    (cases_eq k 0)

-- ---- the words of the two objects, once their references are corrected

skip_two : (h : List ℕ) (v w k : ℕ) → eqb k 13 ≡ false → eqb k 23 ≡ false → get_or (set (set h 13 v) 23 w) k 0 ≡ get_or h k 0
skip_two h v w k e f = skip (set h 13 v) 23 k w f ∙ skip h 13 k v e

first_name : (h : List ℕ) (x y : ℕ) → 24 ≤ length h → get_or (two_objects h x y) 11 0 ≡ 1
first_name h x y fits =
    let s1 : List ℕ = set h 10 65537 in
    let s2 : List ℕ = set s1 11 1 in
    let s3 : List ℕ = set s2 12 0 in
    let s4 : List ℕ = set s3 13 42 in
    let s5 : List ℕ = set s4 20 65537 in
    let s6 : List ℕ = set s5 21 2 in
    let s7 : List ℕ = set s6 22 0 in
    let s8 : List ℕ = set s7 23 22 in
    let s9 : List ℕ = set s8 12 x in
    let long : 11 < length s1 = rw (length-set h 10 65537) (omega arith) in
    skip s9 22 11 y refl ∙ skip s8 12 11 x refl ∙ skip s7 23 11 22 refl ∙ skip s6 22 11 0 refl ∙ skip s5 21 11 2 refl ∙ skip s4 20 11 65537 refl ∙ skip s3 13 11 42 refl ∙ skip s2 12 11 0 refl ∙ get_or-set_same s1 11 1 0 long

second_name : (h : List ℕ) (x y : ℕ) → 24 ≤ length h → get_or (two_objects h x y) 21 0 ≡ 2
second_name h x y fits =
    let s1 : List ℕ = set h 10 65537 in
    let s2 : List ℕ = set s1 11 1 in
    let s3 : List ℕ = set s2 12 0 in
    let s4 : List ℕ = set s3 13 42 in
    let s5 : List ℕ = set s4 20 65537 in
    let s6 : List ℕ = set s5 21 2 in
    let s7 : List ℕ = set s6 22 0 in
    let s8 : List ℕ = set s7 23 22 in
    let s9 : List ℕ = set s8 12 x in
    let long : 21 < length s5 = rw (length-set s4 20 65537, length-set s3 13 42, length-set s2 12 0, length-set s1 11 1, length-set h 10 65537) (omega arith) in
    skip s9 22 21 y refl ∙ skip s8 12 21 x refl ∙ skip s7 23 21 22 refl ∙ skip s6 22 21 0 refl ∙ get_or-set_same s5 21 2 0 long

two_long : (h : List ℕ) (x y : ℕ) → length (two_objects h x y) ≡ length h
two_long h x y = simp (length-set {A = ℕ})

-- ---- the state of the two objects

abbrev one_name : Name
one_name = record { thread = 0; serial = 1 }

abbrev other_name : Name
other_name = record { thread = 0; serial = 2 }

abbrev one_thing : Thing
one_thing = record { home = Control; fields = Object other_name ∷ [] }

abbrev other_thing : Thing
other_thing = record { home = Control; fields = Object one_name ∷ [] }

abbrev two_of_them : Name → Option Thing
two_of_them n = cond (same_name n one_name) (Some one_thing) (cond (same_name n other_name) (Some other_thing) None)

abbrev place_of : Name → ℕ
place_of n = cond (same_name n one_name) 10 20

abbrev pair : State
pair = record { objects = two_of_them; stacks = []; depths = []; made = [] }

which : (n : Name) (o : Thing) → two_of_them n ≡ Some o → ((n ≡ one_name) × (one_thing ≡ o)) ⊎ ((n ≡ other_name) × (other_thing ≡ o))
which n o e = by_names (same_name n one_name) (same_name n other_name) refl refl e
  where
    by_names : (a b : Bool) → same_name n one_name ≡ a → same_name n other_name ≡ b → cond a (Some one_thing) (cond b (Some other_thing) None) ≡ Some o → ((n ≡ one_name) × (one_thing ≡ o)) ⊎ ((n ≡ other_name) × (other_thing ≡ o))
    by_names true b p q f = inl (same_name-true n one_name p, cc)
    by_names false true p q f = inr (same_name-true n other_name q, cc)
    by_names false false p q f = cc

each_of : (P : Name → Thing → Type 0) → P one_name one_thing → P other_name other_thing → (n : Name) (o : Thing) → two_of_them n ≡ Some o → P n o
each_of P one other n o e = ⊎_elim
    (λ (q : (n ≡ one_name) × (one_thing ≡ o)). subst (λ x. P x o) (sym q.0) (subst (P one_name) q.1 one))
    (λ (q : (n ≡ other_name) × (other_thing ≡ o)). subst (λ x. P x o) (sym q.0) (subst (P other_name) q.1 other))
    (which n o e)

two_ready : (m : Areas) (h : List ℕ) (x y v w count : ℕ) (moves : ℕ → Move) → IsAreas m → 24 ≤ length h → count ≡ 2 → moves 0 ≡ record { old = 10; new = 8; space = Region 1 1 } → moves 1 ≡ record { old = 20; new = 12; space = Control } → v ≡ 2 * (forward count moves 20 + 1) → w ≡ 2 * (forward count moves 10 + 1)
    → IsReadyPlan m (set (set (two_objects h x y) 13 v) 23 w) count moves
two_ready m h x y v w count moves areas fits two first second ev ew =
    let t : List ℕ = two_objects h x y in
    let last : List ℕ = set (set t 13 v) 23 w in
    let long : length t ≡ length h = two_long h x y in
    let one_field : get_or last 13 0 ≡ v = skip (set t 13 v) 23 13 w refl ∙ get_or-set_same t 13 v 0 (omega (arith, long)) in
    let other_field : get_or last 23 0 ≡ w = get_or-set_same (set t 13 v) 23 w 0 (omega (arith, long, length-set t 13 v)) in
    record {
      state = pair;
      places = place_of;
      work = λ n. get_or last (place_of n + 2) 0;
      dropped = λ n. false;
      lawful = record {
        words = λ k. 4;
        ascending = λ i j lt le.
            let e : i ≡ 0 = omega arith in
            let f : j ≡ 1 = omega arith in
            rw (e, f, first, second) (omega arith);
        present = λ k lt. one_of_two k (λ j. (n : Name) × (o : Thing) × (two_of_them n ≡ Some o) × (place_of n ≡ (moves j).old) × (4 ≡ length o.fields + OBJECT_WORDS)) (omega arith) (one_name, one_thing, refl, ap (λ (z : Move). z.old) (sym first), refl) (other_name, other_thing, refl, ap (λ (z : Move). z.old) (sym second), refl);
        spaces = λ k lt. one_of_two k (λ j. IsSpaceOf m (moves j).space) (omega arith) (rw first (omega arith, areas.2, omega arith, omega arith)) (rw second tt);
        in_page = λ k lt. one_of_two k (λ j. IsInOnePage m (moves j).new 4) (omega arith) (rw first (0, areas.0, omega arith, omega arith)) (rw second (0, areas.0, omega arith, omega arith));
        apart = λ i j lt le.
            let e : i ≡ 0 = omega arith in
            let f : j ≡ 1 = omega arith in
            rw (e, f, first, second) (inl (omega arith));
        later = λ i j lt le.
            let e : i ≡ 0 = omega arith in
            let f : j ≡ 1 = omega arith in
            rw (e, f, first, second) (inl (omega arith));
        beside = λ k n o lt e none. absurd (each_of (λ x p. ((j : ℕ) → j < count → place_of x ≢ (moves j).old) → ⊥)
            (λ no. no 0 (omega arith) (ap (λ (z : Move). z.old) (sym first)))
            (λ no. no 1 (omega arith) (ap (λ (z : Move). z.old) (sym second))) n o e none);
        closed = record {
          stacks = All-nil (All (IsDatum two_of_them));
          fields = each_of (λ x p. All (IsDatum two_of_them) p.fields × (length p.fields ≤ MAX_FIELDS))
              (All-cons (IsDatum two_of_them) (Object other_name) [] refl (All-nil (IsDatum two_of_them)), omega arith)
              (All-cons (IsDatum two_of_them) (Object one_name) [] refl (All-nil (IsDatum two_of_them)), omega arith);
        };
      };
      holds = record {
        within = each_of (λ x p. place_of x + (length p.fields + OBJECT_WORDS) ≤ heap_length m) (omega (arith, areas.0)) (omega (arith, areas.0));
        limits = each_of (λ x p. (length p.fields ≤ MAX_FIELDS) × (space_index p.home ≤ MAX_SPACE)) (omega arith, omega arith) (omega arith, omega arith);
        stands = each_of (λ x p. StandsAt last (place_of x) (forwarded count moves place_of) (get_or last (place_of x + 2) 0) x p)
            (record {
              header = first_header h x y v w fits;
              name = skip_two t v w 11 refl refl ∙ first_name h x y fits;
              work_word = refl;
              fields = λ f lt. let z : f ≡ 0 = omega arith in rw z (one_field ∙ ev);
            })
            (record {
              header = second_header h x y v w fits;
              name = skip_two t v w 21 refl refl ∙ second_name h x y fits;
              work_word = refl;
              fields = λ f lt. let z : f ≡ 0 = omega arith in rw z (other_field ∙ ew);
            });
      };
    }

pub correct-requires-clause-reference : goal.correct-requires-clause-reference
correct-requires-clause-reference g c a e =
    let m = c.args.map in
    let h : List ℕ = heap_of m (g.W.Words.words c.args.words.now) in
    let last = g.W.Words.words c.add_move-2.new.words in
    let x : ℕ = c.empty_plan-plan.result.count + 1 in
    let y : ℕ = c.add_move.new.plan.count + 1 in
    let areas = c.requires.areas in
    let fits : 24 ≤ length h = omega (arith, areas.0, length-heap m (g.W.Words.words c.args.words.now) c.requires.whole) in
    let heap : heap_of m last ≡ two_objects h x y = rw (ap (λ (z : Contents). z.heap) c.add_move-2.ensures.marked, ap (λ (z : Contents). z.heap) c.add_move.ensures.marked, c.empty_plan-plan.ensures.words, c.put_object-2.ensures.put, c.put_object.ensures.put) in
    let read : 42 ≡ 2 * (a + 1) = sym (first_field h x y fits) ∙ ap (λ (z : List ℕ). get_or z 13 0) (sym heap) ∙ sym (contents-get_heap m last 13 (omega (arith, areas.0))) ∙ ap (λ i. get_or last (i + 13) 0) (sym c.heap.ensures) ∙ e in
    omega (arith, areas.0)

pub correct-requires-2-clause-sound : goal.correct-requires-2-clause-sound
correct-requires-2-clause-sound g c = (c.correct.ensures.field 13 (omega (arith, c.requires.areas.0)) (ap (λ i. i + 13) c.heap.ensures)).1

pub correct-requires-2-clause-plan : goal.correct-requires-2-clause-plan
correct-requires-2-clause-plan g c =
    let m = c.args.map in
    let last = g.W.Words.words c.add_move-2.new.words in
    let field = c.correct.ensures.field 13 (omega (arith, c.requires.areas.0)) (ap (λ i. i + 13) c.heap.ensures) in
    let v : ℕ = corrected_word (forward c.add_move-2.new.plan.count (move_at (scratch_of m last))) (get_or (heap_of m last) 13 0) in
    let two : c.add_move-2.new.plan.count ≡ 2 = omega (arith, c.add_move-2.ensures.count, c.add_move.ensures.count, c.empty_plan-plan.ensures.none) in
    let moves : ℕ → Move = move_at (scratch_of m last) in
    let first : moves 0 ≡ record { old = 10; new = 8; space = Region 1 1 } = c.add_move-2.ensures.former 0 (omega (arith, c.add_move.ensures.count)) ∙ subst (λ n. move_at (scratch_of m (g.W.Words.words c.add_move.new.words)) n ≡ record { old = 10; new = 8; space = Region 1 1 }) c.empty_plan-plan.ensures.none c.add_move.ensures.added in
    let one : c.add_move.new.plan.count ≡ 1 = omega (arith, c.add_move.ensures.count, c.empty_plan-plan.ensures.none) in
    let second : moves 1 ≡ record { old = 20; new = 12; space = Control } = subst (λ n. moves n ≡ record { old = 20; new = 12; space = Control }) one c.add_move-2.ensures.added in
    let other : (k : ℕ) → k < c.add_move-2.new.plan.count → (moves k).old + 2 ≢ 13 = λ k lt. one_of_two k (λ j. (moves j).old + 2 ≢ 13) (omega arith) (λ q. omega (arith, ap (λ (z : Move). z.old) first)) (λ q. omega (arith, ap (λ (z : Move). z.old) second)) in
    subst (λ (z : Contents). Numbered m z.heap c.add_move-2.new.plan.count (move_at z.scratch)) (sym field.0) (numbered-kept m (heap_of m last) c.add_move-2.new.plan.count moves 13 v c.add_move-2.ensures.plan other)

pub correct-requires-2-clause-reference : goal.correct-requires-2-clause-reference
correct-requires-2-clause-reference g c a e =
    let m = c.args.map in
    let h : List ℕ = heap_of m (g.W.Words.words c.args.words.now) in
    let last = g.W.Words.words c.add_move-2.new.words in
    let x : ℕ = c.empty_plan-plan.result.count + 1 in
    let y : ℕ = c.add_move.new.plan.count + 1 in
    let areas = c.requires.areas in
    let fits : 24 ≤ length h = omega (arith, areas.0, length-heap m (g.W.Words.words c.args.words.now) c.requires.whole) in
    let heap : heap_of m last ≡ two_objects h x y = rw (ap (λ (z : Contents). z.heap) c.add_move-2.ensures.marked, ap (λ (z : Contents). z.heap) c.add_move.ensures.marked, c.empty_plan-plan.ensures.words, c.put_object-2.ensures.put, c.put_object.ensures.put) in
    let field = c.correct.ensures.field 13 (omega (arith, areas.0)) (ap (λ i. i + 13) c.heap.ensures) in
    let mid = g.W.Words.words c.correct.new.words in
    let v : ℕ = corrected_word (forward c.add_move-2.new.plan.count (move_at (scratch_of m last))) (get_or (heap_of m last) 13 0) in
    let heap_mid : heap_of m mid ≡ set (two_objects h x y) 13 v = ap (λ (z : Contents). z.heap) field.0 ∙ ap (λ (z : List ℕ). set z 13 v) heap in
    let read : 22 ≡ 2 * (a + 1) = sym (second_field h x y v fits) ∙ ap (λ (z : List ℕ). get_or z 23 0) (sym heap_mid) ∙ sym (contents-get_heap m mid 23 (omega (arith, areas.0))) ∙ ap (λ i. get_or mid (i + 23) 0) (sym c.heap-2.ensures) ∙ e in
    omega (arith, areas.0)

pub move_all-requires-clause-sound : goal.move_all-requires-clause-sound
move_all-requires-clause-sound g c = (c.correct-2.ensures.field 23 (omega (arith, c.requires.areas.0)) (ap (λ i. i + 23) c.heap-2.ensures)).1

pub move_all-requires-clause-lawful : goal.move_all-requires-clause-lawful
move_all-requires-clause-lawful g c =
    let m = c.args.map in
    let h : List ℕ = heap_of m (g.W.Words.words c.args.words.now) in
    let last = g.W.Words.words c.add_move-2.new.words in
    let x : ℕ = c.empty_plan-plan.result.count + 1 in
    let y : ℕ = c.add_move.new.plan.count + 1 in
    let areas = c.requires.areas in
    let fits : 24 ≤ length h = omega (arith, areas.0, length-heap m (g.W.Words.words c.args.words.now) c.requires.whole) in
    let heap : heap_of m last ≡ two_objects h x y = rw (ap (λ (z : Contents). z.heap) c.add_move-2.ensures.marked, ap (λ (z : Contents). z.heap) c.add_move.ensures.marked, c.empty_plan-plan.ensures.words, c.put_object-2.ensures.put, c.put_object.ensures.put) in
    let field = c.correct.ensures.field 13 (omega (arith, areas.0)) (ap (λ i. i + 13) c.heap.ensures) in
    let mid = g.W.Words.words c.correct.new.words in
    let v : ℕ = corrected_word (forward c.add_move-2.new.plan.count (move_at (scratch_of m last))) (get_or (heap_of m last) 13 0) in
    let heap_mid : heap_of m mid ≡ set (two_objects h x y) 13 v = ap (λ (z : Contents). z.heap) field.0 ∙ ap (λ (z : List ℕ). set z 13 v) heap in
    let two : c.add_move-2.new.plan.count ≡ 2 = omega (arith, c.add_move-2.ensures.count, c.add_move.ensures.count, c.empty_plan-plan.ensures.none) in
    let moves : ℕ → Move = move_at (scratch_of m last) in
    let first : moves 0 ≡ record { old = 10; new = 8; space = Region 1 1 } = c.add_move-2.ensures.former 0 (omega (arith, c.add_move.ensures.count)) ∙ subst (λ n. move_at (scratch_of m (g.W.Words.words c.add_move.new.words)) n ≡ record { old = 10; new = 8; space = Region 1 1 }) c.empty_plan-plan.ensures.none c.add_move.ensures.added in
    let one : c.add_move.new.plan.count ≡ 1 = omega (arith, c.add_move.ensures.count, c.empty_plan-plan.ensures.none) in
    let second : moves 1 ≡ record { old = 20; new = 12; space = Control } = subst (λ n. moves n ≡ record { old = 20; new = 12; space = Control }) one c.add_move-2.ensures.added in
    let field_2 = c.correct-2.ensures.field 23 (omega (arith, areas.0)) (ap (λ i. i + 23) c.heap-2.ensures) in
    let end = g.W.Words.words c.correct-2.new.words in
    let w : ℕ = corrected_word (forward c.add_move-2.new.plan.count (move_at (scratch_of m mid))) (get_or (heap_of m mid) 23 0) in
    let heap_end : heap_of m end ≡ set (set (two_objects h x y) 13 v) 23 w = ap (λ (z : Contents). z.heap) field_2.0 ∙ ap (λ (z : List ℕ). set z 23 w) heap_mid in
    let scratch : scratch_of m end ≡ scratch_of m last = ap (λ (z : Contents). z.scratch) field_2.0 ∙ ap (λ (z : Contents). z.scratch) field.0 in
    let scratch_mid : scratch_of m mid ≡ scratch_of m last = ap (λ (z : Contents). z.scratch) field.0 in
    let leads : ℕ → ℕ = forward c.add_move-2.new.plan.count moves in
    let ev : v ≡ 2 * (leads 20 + 1) = ap (corrected_word leads) (ap (λ (z : List ℕ). get_or z 13 0) heap ∙ first_field h x y fits) in
    let ew : w ≡ 2 * (leads 10 + 1) = ap (λ sc. corrected_word (forward c.add_move-2.new.plan.count (move_at sc)) (get_or (heap_of m mid) 23 0)) scratch_mid ∙ ap (corrected_word leads) (ap (λ (z : List ℕ). get_or z 23 0) heap_mid ∙ second_field h x y v fits) in
    let ready = two_ready m h x y v w c.add_move-2.new.plan.count moves areas fits two first second ev ew in
    rw (heap_end, scratch) (∣ ready ∣₁)
