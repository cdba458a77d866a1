use Rattle.std.proofs.Common.{◌≡◌, ◌≢◌, ◌⊎◌, ℕ, ◌+◌, ◌≤◌, ◌<◌, Bool, true, false, cond, Option, Some, None, List, length, get_or, zero, suc, refl, sym, ap, subst, ◌∙◌, arith, inl, inr}
use Rattle.std.proofs.lemmas.Bool.{cases_eq, eq-eqb, ne_eqb}
use Rattle.std.proofs.Math.Logic.{⊎_elim}
use Rattle.std.specs.Prelude.{◌==◌}
use Rattle.object_layout.specs.declared.names.Name.{Name}
use Rattle.object_layout.specs.Layout.{header_word}
use Rattle.heap_words.specs.declared.map.Areas.{Areas}
use Rattle.heap_words.specs.Map.{IsAreas, heap_length}
use Rattle.epoch_lattice.specs.declared.Space.{Space}
use Rattle.epoch_lattice.specs.declared.Space.TheVariants.{Control, Region}
use Rattle.epoch_lattice.specs.Lattice.{IsValid, space_index}
use Rattle.object_layout.specs.declared.TheConstants.{MAX_FIELDS, MAX_DEPTH, MAX_SPACE}
use Rattle.yak_model.specs.State.{Thing, State}
use Rattle.yak_model.specs.Placed.{words_by, size_by, StandsAt, Holds}
use Rattle.yak_model.specs.Plans.{Move}
use Rattle.relocation.specs.Moves.{fields_at, size_at, Copied, Moved, AllMovable}
use Rattle.yak_model.specs.Plans.{by_move, forwarded, cleared, rehomed, without, after_moves, IsLawfulPlan}
use Rattle.yak_model.specs.Packed.{IsSpaceOf}
use Rattle.relocation.proofs.Moving.{fields_at-header, beside_apart}

-- the number of a space fits a header
index-fits : (x : Space) → IsValid MAX_DEPTH x → space_index x ≤ MAX_SPACE
index-fits Control h = omega arith
index-fits (Region t d) h = omega (arith, h.0, h.1, h.2, h.3)

-- a space of a heap is a valid one
space-valid : (m : Areas) (x : Space) → IsAreas m → IsSpaceOf m x → IsValid MAX_DEPTH x
space-valid m Control areas h = tt
space-valid m (Region t d) areas h = (h.0, omega (arith, h.1, areas.3), h.2, h.3)

-- a move of the plan is of the object at an address, or none is
pub which_move : (count : ℕ) (moves : ℕ → Move) (a : ℕ) → ((k : ℕ) × (k < count) × (a ≡ (moves k).old)) ⊎ ((k : ℕ) → k < count → a ≢ (moves k).old)
which_move zero moves a = inr (λ k lt. absurd (omega arith))
which_move (suc c) moves a = ⊎_elim
    (λ (e : a ≡ (moves c).old). inl (c, (let lt : c < suc c = omega arith in lt), e))
    (λ (ne : a ≡ (moves c).old → ⊥). ⊎_elim
    (λ (found : (k : ℕ) × (k < c) × (a ≡ (moves k).old)). inl (found.0, (let lt : found.0 < suc c = omega arith in lt), found.2))
    (λ (none : (k : ℕ) → k < c → a ≢ (moves k).old). inr (λ k lt. ⊎_elim (λ (e : k ≡ c). subst (λ j. a ≢ (moves j).old) (sym e) ne) (λ (q : k ≡ c → ⊥). none k (omega arith)) (cases_eq k c)))
    (which_move c moves a))
    (cases_eq a (moves c).old)

-- the moves are of different addresses
abbrev pub Ascending : ℕ → (ℕ → Move) → Type 0
Ascending count moves = (j k : ℕ) → j < k → k < count → (moves j).old < (moves k).old

pub by_move-other : {A : Type 0} (count : ℕ) (moves : ℕ → Move) (f : Move → A) (a : ℕ) (x : A) → ((k : ℕ) → k < count → a ≢ (moves k).old) → by_move count moves f a x ≡ x
unfolding by_move
by_move-other zero moves f a x none = refl
by_move-other (suc c) moves f a x none =
    let test : (a == (moves c).old) ≡ false = ne_eqb a (moves c).old (none c (omega arith)) in
    rw test (by_move-other c moves f a x (λ k lt. none k (omega arith)))

pub by_move-at : {A : Type 0} (count : ℕ) (moves : ℕ → Move) (f : Move → A) (a : ℕ) (x : A) (k : ℕ) → Ascending count moves → k < count → a ≡ (moves k).old → by_move count moves f a x ≡ f (moves k)
unfolding by_move
by_move-at zero moves f a x k up lt e = absurd (omega arith)
by_move-at (suc c) moves f a x k up lt e = ⊎_elim
    (λ (q : k ≡ c).
    let test : (a == (moves c).old) ≡ true = eq-eqb a (moves c).old (e ∙ ap (λ j. (moves j).old) q) in
    rw (test, q) refl)
    (λ (ne : k ≡ c → ⊥).
    let before : k < c = omega arith in
    let less : (moves k).old < (moves c).old = up k c before (omega arith) in
    let test : (a == (moves c).old) ≡ false = ne_eqb a (moves c).old (λ h. omega arith) in
    rw test (by_move-at c moves f a x k (λ i j h l. up i j h (omega arith)) before e))
    (cases_eq k c)

-- a kept object is one of the state
kept-object : (s : State) (dropped : Name → Bool) (n : Name) (o : Thing) (b : Bool) → dropped n ≡ b → cond b None (s.objects n) ≡ Some o → s.objects n ≡ Some o
kept-object s dropped n o true d e = cc
kept-object s dropped n o false d e = e

pub kept : (s : State) (dropped : Name → Bool) (n : Name) (o : Thing) → (without s dropped).objects n ≡ Some o → s.objects n ≡ Some o
kept s dropped n o e = kept-object s dropped n o (dropped n) refl e

pub kept-size : (s : State) (dropped : Name → Bool) (n : Name) (o : Thing) → (without s dropped).objects n ≡ Some o → size_by s.objects n ≡ length o.fields + 3
kept-size s dropped n o e = ap words_by (kept s dropped n o e)

-- an object afterwards is one from before in its new space
pub before_moves : (count : ℕ) (moves : ℕ → Move) (a : ℕ) (x : Option Thing) (p : Thing) → rehomed count moves a x ≡ Some p → (o : Thing) × (x ≡ Some o) × (p ≡ record o { home = by_move count moves (λ v. v.space) a o.home })
before_moves count moves a None p e = absurd (let f : None ≡ Some p = e in cc)
before_moves count moves a (Some o) p e = (o, refl, cc)

-- the header of an object that stands at an address
stands-fields : (heap : List ℕ) (a : ℕ) (leads : Name → ℕ) (w : ℕ) (n : Name) (o : Thing) → (length o.fields ≤ MAX_FIELDS) × (space_index o.home ≤ MAX_SPACE) → StandsAt heap a leads w n o → fields_at heap a ≡ length o.fields
stands-fields heap a leads w n o ok h = fields_at-header heap a (record { fields = length o.fields; space = space_index o.home }) ok h.header

-- the words of a move's object
move_size : (m : Areas) (heap : List ℕ) (count : ℕ) (moves : ℕ → Move) (s : State) (at leads work : Name → ℕ) (dropped : Name → Bool) → (plan : IsLawfulPlan m count moves s at dropped) → Holds m heap at leads work (without s dropped).objects → (k : ℕ) → k < count → size_at heap (moves k).old ≡ plan.words k
move_size m heap count moves s at leads work dropped plan holds k lt =
    let o = plan.present k lt in
    let n : Name = o.0 in
    let stands = holds.stands n o.1 o.2 in
    let f : fields_at heap (at n) ≡ length o.1.fields = stands-fields heap (at n) leads (work n) n o.1 (holds.limits n o.1 o.2) stands in
    ap (size_at heap) (sym o.3) ∙ ap (λ i. i + 3) f ∙ sym o.4

-- the words of a lawful plan's objects can be moved
pub lawful-movable : (m : Areas) (heap : List ℕ) (count : ℕ) (moves : ℕ → Move) (s : State) (at leads work : Name → ℕ) (dropped : Name → Bool) → IsAreas m → IsLawfulPlan m count moves s at dropped → Holds m heap at leads work (without s dropped).objects → AllMovable m heap count moves
lawful-movable m heap count moves s at leads work dropped areas plan holds =
    let size = move_size m heap count moves s at leads work dropped plan holds in
    record {
      each = λ k lt.
          let o = plan.present k lt in
          let n : Name = o.0 in
          let stands = holds.stands n o.1 o.2 in
          let within = holds.within n o.1 o.2 in
          let same : size_at heap (moves k).old ≡ length o.1.fields + 3 = size k lt ∙ o.4 in
          let page = plan.in_page k lt in
          let e : size_at heap (moves k).old ≡ plan.words k = size k lt in
          record {
            header = (record { fields = length o.1.fields; space = space_index o.1.home }, holds.limits n o.1 o.2, ap (λ a. get_or heap a 0) (sym o.3) ∙ stands.header);
            space = space-valid m (moves k).space areas (plan.spaces k lt);
            old = omega (arith, o.3, within, same);
            new = omega (arith, page.1, page.2, page.3, e);
          };
      apart = λ j k h lt. let lj : j < count = omega arith in rw (size j lj, size k lt) (plan.apart j k h lt);
      later = λ j k h lt. let lj : j < count = omega arith in rw (size j lj, size k lt) (plan.later j k h lt);
    }

-- an object that was moved
stands-moved : (was now : List ℕ) (v : Move) (leads : Name → ℕ) (w : ℕ) (n : Name) (o : Thing) → Copied was now v → fields_at was v.old ≡ length o.fields → StandsAt was v.old leads w n o → StandsAt now v.new leads 0 n (record o { home = v.space })
stands-moved was now v leads w n o c f h = record {
  header = c.header ∙ ap (λ i. header_word (record { fields = i; space = space_index v.space })) f;
  name = c.name ∙ h.name;
  work_word = c.work_word;
  fields = λ i lt. c.fields i (omega arith) ∙ h.fields i lt;
}

-- an object whose words are as before
stands-still : (was now : List ℕ) (a : ℕ) (leads : Name → ℕ) (w : ℕ) (n : Name) (o : Thing) → ((i : ℕ) → a ≤ i → i < a + (length o.fields + 3) → get_or now i 0 ≡ get_or was i 0) → StandsAt was a leads w n o → StandsAt now a leads w n o
stands-still was now a leads w n o same h = record {
  header = same a (omega arith) (omega arith) ∙ h.header;
  name = same (a + 1) (omega arith) (omega arith) ∙ h.name;
  work_word = same (a + 2) (omega arith) (omega arith) ∙ h.work_word;
  fields = λ i lt. same (a + 3 + i) (omega arith) (omega arith) ∙ h.fields i lt;
}

one_relocated : (m : Areas) (was now : List ℕ) (count : ℕ) (moves : ℕ → Move) (s : State) (at leads work : Name → ℕ) (dropped : Name → Bool) → IsAreas m → IsLawfulPlan m count moves s at dropped → Holds m was at leads work (without s dropped).objects → Moved was now count moves → (n : Name) (o : Thing) → (without s dropped).objects n ≡ Some o → StandsAt now (forwarded count moves at n) leads (cleared count moves at work n) n (record o { home = by_move count moves (λ v. v.space) (at n) o.home }) × (forwarded count moves at n + (length o.fields + 3) ≤ heap_length m) × (space_index (by_move count moves (λ v. v.space) (at n) o.home) ≤ MAX_SPACE)
one_relocated m was now count moves s at leads work dropped areas plan holds done n o e =
    let stands = holds.stands n o e in
    let within = holds.within n o e in
    let limits = holds.limits n o e in
    ⊎_elim
    (λ (found : (k : ℕ) × (k < count) × (at n ≡ (moves k).old)).
    let k : ℕ = found.0 in
    let lt : k < count = found.1 in
    let here : at n ≡ (moves k).old = found.2 in
    let movable = (lawful-movable m was count moves s at leads work dropped areas plan holds).each k lt in
    let f : fields_at was (moves k).old ≡ length o.fields = ap (fields_at was) (sym here) ∙ stands-fields was (at n) leads (work n) n o limits stands in
    let new : (moves k).new + (length o.fields + 3) ≤ heap_length m = omega (arith, movable.new, f) in
    let old : StandsAt was (moves k).old leads (work n) n o = subst (λ a. StandsAt was a leads (work n) n o) here stands in
    rw (by_move-at count moves (λ v. v.new) (at n) (at n) k plan.ascending lt here, by_move-at count moves (λ v. 0) (at n) (work n) k plan.ascending lt here, by_move-at count moves (λ v. v.space) (at n) o.home k plan.ascending lt here)
    (stands-moved was now (moves k) leads (work n) n o (done.copied k lt) f old, new, index-fits (moves k).space movable.space))
    (λ (none : (k : ℕ) → k < count → at n ≢ (moves k).old).
    let size = move_size m was count moves s at leads work dropped plan holds in
    let same : (i : ℕ) → at n ≤ i → i < at n + (length o.fields + 3) → get_or now i 0 ≡ get_or was i 0 = λ i low high. done.others i (λ k lt. beside_apart i (moves k).new (size_at was (moves k).old) (at n) (length o.fields + 3) (rw (size k lt) (plan.beside k n o lt e none)) low high) in
    rw (by_move-other count moves (λ v. v.new) (at n) (at n) none, by_move-other count moves (λ v. 0) (at n) (work n) none, by_move-other count moves (λ v. v.space) (at n) o.home none)
    (stands-still was now (at n) leads (work n) n o same stands, within, limits.1))
    (which_move count moves (at n))

-- after the moves the same objects stand at their new places
pub relocated : (m : Areas) (was now : List ℕ) (count : ℕ) (moves : ℕ → Move) (s : State) (at leads work : Name → ℕ) (dropped : Name → Bool) → IsAreas m → IsLawfulPlan m count moves s at dropped → Holds m was at leads work (without s dropped).objects → Moved was now count moves → Holds m now (forwarded count moves at) leads (cleared count moves at work) (after_moves count moves at (without s dropped)).objects
relocated m was now count moves s at leads work dropped areas plan holds done =
    let one = one_relocated m was now count moves s at leads work dropped areas plan holds done in
    let before = λ (n : Name) (p : Thing). before_moves count moves (at n) ((without s dropped).objects n) p in
    record {
      within = λ n p e. let b = before n p e in subst (λ (x : Thing). forwarded count moves at n + (length x.fields + 3) ≤ heap_length m) (sym b.2) (one n b.0 b.1).1;
      limits = λ n p e. let b = before n p e in subst (λ (x : Thing). (length x.fields ≤ MAX_FIELDS) × (space_index x.home ≤ MAX_SPACE)) (sym b.2) ((holds.limits n b.0 b.1).0, (one n b.0 b.1).2);
      stands = λ n p e. let b = before n p e in subst (λ (x : Thing). StandsAt now (forwarded count moves at n) leads (cleared count moves at work n) n x) (sym b.2) (one n b.0 b.1).0;
    }
