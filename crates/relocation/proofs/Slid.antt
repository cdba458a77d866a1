use Rattle.std.proofs.Common.{◌≡◌, ◌≢◌, ℕ, true, false, cond, ◌+◌, ◌-◌, ◌*◌, ◌/◌, ◌≤◌, ◌<◌, ◌⊎◌, List, get_or, set, zero, suc, refl, sym, ap, subst, ◌∙◌, arith, inl, inr, get_or-set_other}
use Rattle.std.proofs.lemmas.Bool.{cases_eq, cases_lt, eq-eqb, ne_eqb}
use Rattle.std.specs.Prelude.{◌==◌}
use Rattle.std.proofs.Math.Logic.{⊎_elim}
use Rattle.heap_words.specs.declared.map.Areas.{Areas}
use Rattle.heap_words.specs.Map.{heap_length, page_words}
use Rattle.heap_words.specs.Contents.{Contents}
use Rattle.epoch_lattice.specs.declared.Space.{Space}
use Rattle.epoch_lattice.specs.declared.Space.TheVariants.{Control}
use Rattle.yak_model.specs.Placed.{used_mark}
use Rattle.yak_model.specs.Plans.{Move}
use Rattle.relocation.specs.Moves.{size_at, HasHeader, Numbered, AllMovable}
use Rattle.relocation.proofs.Moving.{fields_at-same}
use Rattle.relocation.specs.Slide.{brought, behind, IsPageOf, IsFirstPage, GoesBehind, GoesOn, pages_before, Runs, IsObject, InPageOf, front, Sliding}
use Rattle.relocation.specs.Moves.{words_moved}
use Rattle.relocation.proofs.SlidObjects.{behind-more, object-page, object-header, object-same}

-- what lies ahead is as it was
pub ahead : (m : Areas) (slid : ℕ) (was : Contents) (runs : Runs m slid was) (now : Contents) (count : ℕ) (moves : ℕ → Move) (next room a i : ℕ) → Sliding m slid was runs now count moves next room a → a ≤ i → get_or now.heap i 0 ≡ get_or was.heap i 0
ahead m slid was runs now count moves next room a i s le = s.others i (λ k lt e. let p = s.passed k lt in omega (arith, p, e))

pub ahead-size : (m : Areas) (slid : ℕ) (was : Contents) (runs : Runs m slid was) (now : Contents) (count : ℕ) (moves : ℕ → Move) (next room a : ℕ) → Sliding m slid was runs now count moves next room a → size_at now.heap a ≡ size_at was.heap a
ahead-size m slid was runs now count moves next room a s = ap (λ n. n + 3) (fields_at-same was.heap now.heap a (ahead m slid was runs now count moves next room a a s (omega arith)))

-- the same moves have the same words
words_moved-suc : (heap : List ℕ) (k : ℕ) (moves : ℕ → Move) → words_moved heap (suc k) moves ≡ words_moved heap k moves + size_at heap (moves k).old
unfolding words_moved
words_moved-suc heap k moves = refl

pub words_moved-same : (heap : List ℕ) (k : ℕ) (moves moves' : ℕ → Move) → ((j : ℕ) → j < k → moves' j ≡ moves j) → words_moved heap k moves' ≡ words_moved heap k moves
unfolding words_moved
words_moved-same heap zero moves moves' h = refl
words_moved-same heap (suc k) moves moves' h =
    let rest = words_moved-same heap k moves moves' (λ j lt. h j (omega arith)) in
    let last : size_at heap (moves' k).old ≡ size_at heap (moves k).old = ap (λ (v : Move). size_at heap v.old) (h k (omega arith)) in
    omega (arith, rest, last)

pub words_moved-added : (heap : List ℕ) (k a n : ℕ) (x : Space) (moves moves' : ℕ → Move) → ((j : ℕ) → j < k → moves' j ≡ moves j) → moves' k ≡ record { old = a; new = n; space = x } → words_moved heap (k + 1) moves' ≡ words_moved heap k moves + size_at heap a
words_moved-added heap k a n x moves moves' former added =
    let e : k + 1 ≡ suc k = omega arith in
    let last : size_at heap (moves' k).old ≡ size_at heap a = ap (λ (v : Move). size_at heap v.old) added in
    let s = words_moved-suc heap k moves' in
    let same = words_moved-same heap k moves moves' former in
    rw e (omega (arith, s, same, last))

-- an object that is not marked is passed by
pub slide-skip : (m : Areas) (slid : ℕ) (was : Contents) (runs : Runs m slid was) (now : Contents) (count : ℕ) (moves : ℕ → Move) (next room a : ℕ) → Sliding m slid was runs now count moves next room a → IsObject m slid was runs a → get_or was.heap (a + 2) 0 ≡ 0 → Sliding m slid was runs now count moves next room (a + size_at was.heap a)
slide-skip m slid was runs now count moves next room a s o unmarked =
    let page = object-page m slid was runs a o in
    record {
      elsewhere = s.elsewhere;
      numbered = s.numbered;
      others = s.others;
      few = omega (arith, s.few);
      within = omega (arith, page.0, page.1, o.2);
      marked = s.marked;
      complete = λ b q lt marked. ⊎_elim
          (λ (h : b < a). s.complete b q h marked)
          (λ (h : a ≤ b). absurd (marked (ap (λ x. get_or was.heap (x + 2) 0) (object-same m slid was runs a b o q h lt) ∙ unmarked)))
          (cases_lt b a);
      passed = λ k lt. let p = s.passed k lt in omega (arith, p);
      apart = s.apart;
      spread = s.spread;
      placed = s.placed;
      down = s.down;
      control = s.control;
      begins = s.begins;
      follows = s.follows;
      last = s.last;
      unused = s.unused;
      tight = s.tight;
      level = s.level;
      empty = s.empty;
      filled = (omega (arith, s.filled.0), s.filled.1, s.filled.2, s.filled.3);
      taken = s.taken;
      dense = s.dense;
    }

-- what the moves bring into a page
brought-suc : (m : Areas) (heap : List ℕ) (k : ℕ) (moves : ℕ → Move) (p : ℕ) → brought m heap (suc k) moves p ≡ brought m heap k moves p + cond ((moves k).new / page_words m == p) (size_at heap (moves k).old) 0
unfolding brought
brought-suc m heap k moves p = refl

pub brought-same : (m : Areas) (heap : List ℕ) (k : ℕ) (moves moves' : ℕ → Move) (p : ℕ) → ((j : ℕ) → j < k → moves' j ≡ moves j) → brought m heap k moves' p ≡ brought m heap k moves p
unfolding brought
brought-same m heap zero moves moves' p h = refl
brought-same m heap (suc k) moves moves' p h =
    let rest = brought-same m heap k moves moves' p (λ j lt. h j (omega arith)) in
    let last : cond ((moves' k).new / page_words m == p) (size_at heap (moves' k).old) 0 ≡ cond ((moves k).new / page_words m == p) (size_at heap (moves k).old) 0 = ap (λ (v : Move). cond (v.new / page_words m == p) (size_at heap v.old) 0) (h k (omega arith)) in
    omega (arith, rest, last)

brought-here : (m : Areas) (heap : List ℕ) (k a n : ℕ) (x : Space) (moves moves' : ℕ → Move) (p : ℕ) → ((j : ℕ) → j < k → moves' j ≡ moves j) → moves' k ≡ record { old = a; new = n; space = x } → n / page_words m ≡ p → brought m heap (k + 1) moves' p ≡ brought m heap k moves p + size_at heap a
brought-here m heap k a n x moves moves' p former added here =
    let e : k + 1 ≡ suc k = omega arith in
    let test : (n / page_words m == p) ≡ true = eq-eqb (n / page_words m) p here in
    let last : cond ((moves' k).new / page_words m == p) (size_at heap (moves' k).old) 0 ≡ cond (n / page_words m == p) (size_at heap a) 0 = ap (λ (v : Move). cond (v.new / page_words m == p) (size_at heap v.old) 0) added in
    let last' : cond (n / page_words m == p) (size_at heap a) 0 ≡ size_at heap a = rw test refl in
    rw (e, brought-suc m heap k moves' p, brought-same m heap k moves moves' p former, last, last') refl

brought-other : (m : Areas) (heap : List ℕ) (k a n : ℕ) (x : Space) (moves moves' : ℕ → Move) (p : ℕ) → ((j : ℕ) → j < k → moves' j ≡ moves j) → moves' k ≡ record { old = a; new = n; space = x } → (n / page_words m ≡ p → ⊥) → brought m heap (k + 1) moves' p ≡ brought m heap k moves p
brought-other m heap k a n x moves moves' p former added other =
    let e : k + 1 ≡ suc k = omega arith in
    let test : (n / page_words m == p) ≡ false = ne_eqb (n / page_words m) p other in
    let last : cond ((moves' k).new / page_words m == p) (size_at heap (moves' k).old) 0 ≡ cond (n / page_words m == p) (size_at heap a) 0 = ap (λ (v : Move). cond (v.new / page_words m == p) (size_at heap v.old) 0) added in
    let last' : cond (n / page_words m == p) (size_at heap a) 0 ≡ 0 = rw test refl in
    rw (e, brought-suc m heap k moves' p, brought-same m heap k moves moves' p former, last, last') (omega arith)

-- the next place is in the page that is being filled, or at the front of the next page of the space
abbrev pub NextPlace : Areas → ℕ → List (List ℕ) → ℕ → ℕ → ℕ → ℕ → ℕ → Type 0
NextPlace m slid table next room size new next' = ((size ≤ room) × (new ≡ front m next room)) ⊎ ((room < size) × (new ≡ page_words m * (next' - 1)) × IsFirstPage slid table next (next' - 1))

-- the place after one at the end of what was filled
place-follows : (m : Areas) (slid : ℕ) (table : List (List ℕ)) (next room place before size new next' : ℕ) → front m next room ≡ place + before → place / page_words m + 1 ≡ next → room ≤ page_words m * next → NextPlace m slid table next room size new next' → GoesBehind m place before new size ⊎ GoesOn m slid table place before new size
place-follows m slid table next room place before size new next' ends page small h = ⊎_elim
    (λ (stays : (size ≤ room) × (new ≡ front m next room)).
    let room_for : place + before + size ≤ page_words m * (place / page_words m + 1) = omega (arith, stays.0) in
    let behind_it : new ≡ place + before = stays.1 ∙ ends in
    inl (room_for, behind_it))
    (λ (goes : (room < size) × (new ≡ page_words m * (next' - 1)) × IsFirstPage slid table next (next' - 1)).
    let too_long : page_words m * (place / page_words m + 1) < place + before + size = omega (arith, goes.0) in
    inr (too_long, (next' - 1, subst (λ x. IsFirstPage slid table x (next' - 1)) (sym page) goes.2, goes.1)))
    h

-- the first place is at the front of the first page of the space
place-begins : (m : Areas) (slid : ℕ) (table : List (List ℕ)) (next room size new next' : ℕ) → next ≡ 0 → room ≡ 0 → 0 < size → NextPlace m slid table next room size new next' → (q : ℕ) × IsFirstPage slid table 0 q × (new ≡ page_words m * q)
place-begins m slid table next room size new next' none empty some h = ⊎_elim
    (λ (stays : (size ≤ room) × (new ≡ front m next room)). let fits = stays.0 in absurd (omega arith))
    (λ (goes : (room < size) × (new ≡ page_words m * (next' - 1)) × IsFirstPage slid table next (next' - 1)). (next' - 1, subst (λ x. IsFirstPage slid table x (next' - 1)) none goes.2, goes.1))
    h

-- a place that a slide gives to an object at a
pub record Given (m : Areas) (slid : ℕ) (was : Contents) (count : ℕ) (moves : ℕ → Move) (next room a new next' room' : ℕ) : Type 0 where
  pub filled : front m next' room' ≡ new + size_at was.heap a
  pub past : front m next room ≤ new
  pub down : new ≤ a
  pub control : InPageOf m slid was.table new (size_at was.heap a)
  pub bounds : (room' ≤ page_words m) × (room' ≤ page_words m * next') × (next' ≤ m.pages)
  pub taken : 0 < room' → (1 ≤ next') × IsPageOf slid was.table (next' - 1)
  pub chosen : NextPlace m slid was.table next room (size_at was.heap a) new next'
  pub tight : new ≡ page_words m * (new / page_words m) + brought m was.heap count moves (new / page_words m)
  pub level : (new / page_words m ≡ next' - 1) × (1 ≤ next') × (brought m was.heap count moves (next' - 1) + size_at was.heap a + room' ≡ page_words m)
  pub empty : (p : ℕ) → next' ≤ p → brought m was.heap count moves p ≡ 0
  pub dense : page_words m * pages_before slid was.table next' ≤ 2 * (words_moved was.heap count moves + size_at was.heap a) + room'

-- a marked object is planned
pub slide-more : (m : Areas) (slid : ℕ) (was : Contents) (runs : Runs m slid was) (now then : Contents) (count : ℕ) (moves moves' : ℕ → Move) (next room a new next' room' : ℕ) → Sliding m slid was runs now count moves next room a → IsObject m slid was runs a → get_or was.heap (a + 2) 0 ≢ 0 → Given m slid was count moves next room a new next' room' → then ≡ record now { scratch = then.scratch; heap = set now.heap (a + 2) (count + 1) } → Numbered m then.heap (count + 1) moves' → ((j : ℕ) → j < count → moves' j ≡ moves j) → moves' count ≡ record { old = a; new = new; space = Control } → Sliding m slid was runs then (count + 1) moves' next' room' (a + size_at was.heap a)
slide-more m slid was runs now then count moves moves' next room a new next' room' s o marked g e numbered former added =
    let page = object-page m slid was runs a o in
    let heap : then.heap ≡ set now.heap (a + 2) (count + 1) = ap (λ (c : Contents). c.heap) e in
    let old : (moves' count).old ≡ a = ap (λ (v : Move). v.old) added in
    let to : (moves' count).new ≡ new = ap (λ (v : Move). v.new) added in
    let split = λ (P : Move → Type 0) (here : P (record { old = a; new = new; space = Control })) (before : (k : ℕ) → k < count → P (moves k)) (k : ℕ) (lt : k < count + 1). ⊎_elim {A = k ≡ count} {B = k ≡ count → ⊥} (λ (q : k ≡ count). subst (λ j. P (moves' j)) (sym q) (subst P (sym added) here)) (λ (ne : k ≡ count → ⊥). let h : k < count = omega arith in subst P (sym (former k h)) (before k h)) (cases_eq k count) in
    record {
      elsewhere = e ∙ ap (λ (c : Contents). record c { scratch = then.scratch; heap = set now.heap (a + 2) (count + 1) }) s.elsewhere ∙ ap (λ (h : List ℕ). record was { scratch = then.scratch; heap = h }) (sym heap);
      numbered = numbered;
      others = λ i none.
          let here : i ≢ a + 2 = λ q. none count (omega arith) (q ∙ ap (λ x. x + 2) (sym old)) in
          ap (λ (h : List ℕ). get_or h i 0) heap ∙ get_or-set_other now.heap (a + 2) i (count + 1) 0 here ∙ s.others i (λ k lt q. none k (omega arith) (q ∙ ap (λ (v : Move). v.old + 2) (sym (former k lt))));
      few = omega (arith, s.few);
      within = omega (arith, page.0, page.1, o.2);
      marked = split (λ (v : Move). IsObject m slid was runs v.old × (get_or was.heap (v.old + 2) 0 ≢ 0)) (o, marked) s.marked;
      complete = λ b q lt mark. ⊎_elim
          (λ (h : b < a). let f = s.complete b q h mark in (f.0, (let le : f.0 < count + 1 = omega (arith, f.1) in le), ap (λ (v : Move). v.old) (former f.0 f.1) ∙ f.2))
          (λ (h : a ≤ b). (count, (let le : count < count + 1 = omega arith in le), old ∙ sym (object-same m slid was runs a b o q h lt)))
          (cases_lt b a);
      passed = split (λ (v : Move). v.old + size_at was.heap v.old ≤ a + size_at was.heap a) (omega arith) (λ k lt. let p = s.passed k lt in omega (arith, p));
      apart = λ j k h lt. ⊎_elim
          (λ (q : k ≡ count). let lj : j < count = omega arith in rw (q, old, former j lj) (s.passed j lj))
          (λ (ne : k ≡ count → ⊥). let lk : k < count = omega arith in let lj : j < count = omega arith in rw (former j lj, former k lk) (s.apart j k h lk))
          (cases_eq k count);
      spread = λ j k h lt. ⊎_elim
          (λ (q : k ≡ count). let lj : j < count = omega arith in let p = s.placed j lj in rw (q, to, former j lj) (omega (arith, p, g.past)))
          (λ (ne : k ≡ count → ⊥). let lk : k < count = omega arith in let lj : j < count = omega arith in rw (former j lj, former k lk) (s.spread j k h lk))
          (cases_eq k count);
      placed = split (λ (v : Move). v.new + size_at was.heap v.old ≤ front m next' room') (omega (arith, g.filled)) (λ k lt. let p = s.placed k lt in omega (arith, p, g.filled, g.past));
      down = split (λ (v : Move). v.new ≤ v.old) g.down s.down;
      control = split (λ (v : Move). (v.space ≡ Control) × InPageOf m slid was.table v.new (size_at was.heap v.old)) (refl, g.control) s.control;
      begins = λ h. ⊎_elim
          (λ (q : count ≡ 0).
          let none = s.unused q in
          let first : (moves' 0).new ≡ new = ap (λ j. (moves' j).new) (sym q) ∙ to in
          rw first (place-begins m slid was.table next room (size_at was.heap a) new next' none.0 none.1 (omega arith) g.chosen))
          (λ (ne : count ≡ 0 → ⊥). let some : 0 < count = omega arith in rw (former 0 some) (s.begins some))
          (cases_eq count 0);
      follows = λ k lt. ⊎_elim
          (λ (q : k + 1 ≡ count).
          let lk : k < count = omega arith in
          let ends = s.last k q in
          rw (q, to, old, former k lk) (place-follows m slid was.table next room (moves k).new (size_at was.heap (moves k).old) (size_at was.heap a) new next' ends.0 ends.1 s.filled.2 g.chosen))
          (λ (ne : k + 1 ≡ count → ⊥).
          let lk : k < count = omega arith in
          let lk' : k + 1 < count = omega arith in
          rw (former k lk, former (k + 1) lk') (s.follows k lk'))
          (cases_eq (k + 1) count);
      last = λ k q.
          let e : k ≡ count = omega arith in
          let page = g.level.0 in
          let one = g.level.1 in
          rw (e, to, old) (g.filled, (let beyond : new / page_words m + 1 ≡ next' = omega (arith, page, one) in beyond));
      unused = λ q. absurd (omega arith);
      tight = λ k lk. ⊎_elim
          (λ (q : k ≡ count). rw (q, to, brought-same m was.heap count moves moves' (new / page_words m) former) g.tight)
          (λ (ne : k ≡ count → ⊥). let h : k < count = omega arith in rw (former k h, brought-same m was.heap k moves moves' ((moves k).new / page_words m) (λ j lj. former j (omega arith))) (s.tight k h))
          (cases_eq k count);
      level = λ h. rw (brought-here m was.heap count a new Control moves moves' (next' - 1) former added g.level.0) g.level.2;
      empty = λ p h. let page = g.level.0 in let some = g.level.1 in rw (brought-other m was.heap count a new Control moves moves' p former added (λ e. omega (arith, page, some, e))) (g.empty p h);
      filled = (omega (arith, g.filled, g.down), g.bounds.0, g.bounds.1, g.bounds.2);
      taken = g.taken;
      dense = rw (words_moved-added was.heap count a new Control moves moves' former added) g.dense;
    }

-- what is known where a slide has come to an object
pub record Reached (m : Areas) (slid : ℕ) (was now : Contents) (next room a : ℕ) : Type 0 where
  pub size : size_at now.heap a ≡ size_at was.heap a
  pub header : HasHeader now.heap a
  pub within : a + size_at was.heap a ≤ heap_length m
  pub small : size_at was.heap a ≤ page_words m
  pub mark : get_or now.heap (a + 2) 0 ≡ get_or was.heap (a + 2) 0
  pub page : room < size_at was.heap a → (p : ℕ) × (p < m.pages) × IsPageOf slid was.table p × (next ≤ p)

pub reached : (m : Areas) (slid : ℕ) (was : Contents) (runs : Runs m slid was) (now : Contents) (count : ℕ) (moves : ℕ → Move) (next room a : ℕ) → Sliding m slid was runs now count moves next room a → IsObject m slid was runs a → Reached m slid was now next room a
reached m slid was runs now count moves next room a s o =
    let page = object-page m slid was runs a o in
    let h = object-header m slid was runs a o in
    let look = λ (i : ℕ) (le : a ≤ i). ahead m slid was runs now count moves next room a i s le in
    record {
      size = ahead-size m slid was runs now count moves next room a s;
      header = (h.0, h.1, look a (omega arith) ∙ h.2);
      within = omega (arith, page.0, page.1, o.2);
      small = omega (arith, page.0, page.1);
      mark = look (a + 2) (omega arith);
      page = λ less. (o.0, o.2, o.3, (let le : next ≤ o.0 = omega (arith, page.0, page.1, s.filled.0, s.filled.1, s.filled.2) in le));
    }

-- what the next place of a slide is
pub record Offered (m : Areas) (slid : ℕ) (table : List (List ℕ)) (next room size new next' room' : ℕ) : Type 0 where
  pub bounds : (room' ≤ page_words m) × (room' ≤ page_words m * next') × (next' ≤ m.pages)
  pub filled : front m next' room' ≡ new + size
  pub past : front m next room ≤ new
  pub first : (p : ℕ) → p < m.pages → IsPageOf slid table p → room < size → next ≤ p → new ≤ page_words m * p
  pub fits : size ≤ room → (new ≡ front m next room) × (next' ≡ next)
  pub taken : room < size → (new ≡ page_words m * (next' - 1)) × (1 ≤ next') × IsPageOf slid table (next' - 1)
  pub nearest : room < size → IsFirstPage slid table next (next' - 1)
  pub dense : (w : ℕ) → page_words m * pages_before slid table next ≤ 2 * w + room → page_words m * pages_before slid table next' ≤ 2 * (w + size) + room'

next-beyond : (m : Areas) (next room new q : ℕ) → new ≡ page_words m * q → page_words m * next - room ≤ new → room ≤ page_words m → next ≤ q + 1
next-beyond m next room new q e past small = omega arith

pub given : (m : Areas) (slid : ℕ) (was : Contents) (runs : Runs m slid was) (now : Contents) (count : ℕ) (moves : ℕ → Move) (next room a new next' room' : ℕ) → Sliding m slid was runs now count moves next room a → IsObject m slid was runs a → Offered m slid was.table next room (size_at was.heap a) new next' room' → Given m slid was count moves next room a new next' room'
given m slid was runs now count moves next room a new next' room' s o f =
    let r = reached m slid was runs now count moves next room a s o in
    let size : ℕ = size_at was.heap a in
    let three : 3 ≤ size = omega arith in
    let page = object-page m slid was runs a o in
    record {
      filled = f.filled;
      past = f.past;
      down = ⊎_elim
          (λ (less : room < size). let p = r.page less in let le = f.first o.0 o.2 o.3 less (omega (arith, page.0, page.1, s.filled.0, s.filled.1, s.filled.2)) in omega (arith, le, page.0))
          (λ (fits : size ≤ room). let e = (f.fits fits).0 in omega (arith, e, s.filled.0))
          (cases_lt room size);
      control = ⊎_elim
          (λ (less : room < size).
          let t = f.taken less in
          let small = r.small in
          (next' - 1, (let lt : next' - 1 < m.pages = omega (arith, t.1, f.bounds.2) in lt), t.2, (let low : page_words m * (next' - 1) ≤ new = omega (arith, t.0) in low), (let high : new + size ≤ page_words m * (next' - 1) + 256 = omega (arith, t.0, small) in high)))
          (λ (fits : size ≤ room).
          let e = f.fits fits in
          let some : 0 < room = omega arith in
          let t = s.taken some in
          (next - 1, (let lt : next - 1 < m.pages = omega (arith, t.0, s.filled.3) in lt), t.1, (let low : page_words m * (next - 1) ≤ new = omega (arith, e.0, s.filled.1, t.0) in low), (let high : new + size ≤ page_words m * (next - 1) + 256 = omega (arith, e.0, t.0, s.filled.2) in high)))
          (cases_lt room size);
      bounds = f.bounds;
      taken = λ more. ⊎_elim
          (λ (less : room < size). let t = f.taken less in (t.1, t.2))
          (λ (fits : size ≤ room).
          let e = (f.fits fits).1 in
          let some : 0 < room = omega arith in
          let t = s.taken some in
          rw e t)
          (cases_lt room size);
      chosen = ⊎_elim
          (λ (less : room < size). inr (less, (f.taken less).0, f.nearest less))
          (λ (fits : size ≤ room). inl (fits, (f.fits fits).0))
          (cases_lt room size);
      tight = ⊎_elim
          (λ (less : room < size).
          let t = f.taken less in
          let past = f.past in
          let q : new / page_words m ≡ next' - 1 = omega (arith, t.0) in
          let beyond : next ≤ next' - 1 = omega (arith, t.0, past, s.filled.1, s.filled.2, next-beyond m next room new (next' - 1) t.0 past s.filled.1) in
          rw (q, s.empty (next' - 1) beyond) (omega (arith, t.0)))
          (λ (fits : size ≤ room).
          let e = f.fits fits in
          let some : 0 < room = omega arith in
          let t = s.taken some in
          let one = t.0 in
          let q : new / page_words m ≡ next - 1 = omega (arith, e.0, one, s.filled.1) in
          let level = s.level one in
          rw q (omega (arith, e.0, one, level)))
          (cases_lt room size);
      level = ⊎_elim
          (λ (less : room < size).
          let t = f.taken less in
          let past = f.past in
          let q : new / page_words m ≡ next' - 1 = omega (arith, t.0) in
          let beyond : next ≤ next' - 1 = omega (arith, next-beyond m next room new (next' - 1) t.0 past s.filled.1) in
          let zero_words = s.empty (next' - 1) beyond in
          (q, t.1, omega (arith, zero_words, f.filled, t.0, t.1, f.bounds.0, f.bounds.1)))
          (λ (fits : size ≤ room).
          let e = f.fits fits in
          let some : 0 < room = omega arith in
          let t = s.taken some in
          let one = t.0 in
          let level = s.level one in
          let same : next' ≡ next = e.1 in
          let q : new / page_words m ≡ next' - 1 = omega (arith, e.0, one, s.filled.1, same) in
          let there : brought m was.heap count moves (next' - 1) ≡ brought m was.heap count moves (next - 1) = ap (λ x. brought m was.heap count moves (x - 1)) same in
          (q, (let h : 1 ≤ next' = omega (arith, same, one) in h), omega (arith, there, level, same, f.filled, e.0, f.bounds.1)))
          (cases_lt room size);
      empty = λ p h. s.empty p (⊎_elim
          (λ (less : room < size). let t = f.taken less in let past = f.past in omega (arith, t.1, next-beyond m next room new (next' - 1) t.0 past s.filled.1))
          (λ (fits : size ≤ room). let e = f.fits fits in omega (arith, e.1))
          (cases_lt room size));
      dense = f.dense (words_moved was.heap count moves) s.dense;
    }

-- the page table stays while a slide is planned
pub same_table : (m : Areas) (slid : ℕ) (was : Contents) (runs : Runs m slid was) (now : Contents) (count : ℕ) (moves : ℕ → Move) (next room a : ℕ) → Sliding m slid was runs now count moves next room a → now.table ≡ was.table
same_table m slid was runs now count moves next room a s = ap (λ (c : Contents). c.table) s.elsewhere

-- where no object begins, the slide goes on
pub slide-on : (m : Areas) (slid : ℕ) (was : Contents) (runs : Runs m slid was) (now : Contents) (count : ℕ) (moves : ℕ → Move) (next room a b : ℕ) → Sliding m slid was runs now count moves next room a → a ≤ b → b ≤ heap_length m → ((x : ℕ) → IsObject m slid was runs x → a ≤ x → x < b → ⊥) → Sliding m slid was runs now count moves next room b
slide-on m slid was runs now count moves next room a b s le within none = record {
  elsewhere = s.elsewhere;
  numbered = s.numbered;
  others = s.others;
  few = omega (arith, s.few);
  within = within;
  marked = s.marked;
  complete = λ x q lt marked. ⊎_elim (λ (h : x < a). s.complete x q h marked) (λ (h : a ≤ x). absurd (none x q h lt)) (cases_lt x a);
  passed = λ k lt. let p = s.passed k lt in omega (arith, p);
  apart = s.apart;
  spread = s.spread;
  placed = s.placed;
  down = s.down;
  control = s.control;
  begins = s.begins;
  follows = s.follows;
  last = s.last;
  unused = s.unused;
  tight = s.tight;
  level = s.level;
  empty = s.empty;
  filled = (omega (arith, s.filled.0), s.filled.1, s.filled.2, s.filled.3);
  taken = s.taken;
  dense = s.dense;
}

-- the end of a page's objects is no object
pub page-done : (m : Areas) (slid : ℕ) (was : Contents) (runs : Runs m slid was) (p : ℕ) (h : p < m.pages) (control : IsPageOf slid was.table p) (x : ℕ) → IsObject m slid was runs x → page_words m * p + used_mark was.table p ≤ x → x < page_words m * (p + 1) → ⊥
page-done m slid was runs p h control x o low high =
    let page = object-page m slid was runs x o in
    let same : o.0 ≡ p = omega (arith, page.0, page.1) in
    let run = runs o.0 o.2 o.3 in
    let last = behind-more was.heap (page_words m * o.0) o.1 run.objects o.4 in
    let mark : used_mark was.table o.0 ≡ used_mark was.table p = ap (used_mark was.table) same in
    let e : x ≡ behind was.heap (page_words m * o.0) o.1 = o.5 in
    omega (arith, last, run.ends, mark, e)

-- a page that isn't of Control has no object
pub page-other : (m : Areas) (slid : ℕ) (was : Contents) (runs : Runs m slid was) (p : ℕ) → (IsPageOf slid was.table p → ⊥) → (x : ℕ) → IsObject m slid was runs x → page_words m * p ≤ x → x < page_words m * (p + 1) → ⊥
page-other m slid was runs p other x o low high =
    let page = object-page m slid was runs x o in
    let same : o.0 ≡ p = omega (arith, page.0, page.1) in
    other (subst (IsPageOf slid was.table) same o.3)

none-dense : (m : Areas) (slid : ℕ) (table : List (List ℕ)) (heap : List ℕ) (moves : ℕ → Move) → page_words m * pages_before slid table 0 ≤ 2 * words_moved heap 0 moves + 0
unfolding pages_before words_moved
none-dense m slid table heap moves = omega arith

brought-none : (m : Areas) (heap : List ℕ) (moves : ℕ → Move) (p : ℕ) → brought m heap 0 moves p ≡ 0
unfolding brought
brought-none m heap moves p = refl

-- before the first page
pub slide-none : (m : Areas) (slid : ℕ) (was : Contents) (runs : Runs m slid was) (moves : ℕ → Move) → Sliding m slid was runs was 0 moves 0 0 0
slide-none m slid was runs moves = record {
  elsewhere = refl;
  numbered = record { room = omega arith; ascending = λ j k h lt. absurd (omega arith); within = λ k lt. absurd (omega arith); marks = λ k lt. absurd (omega arith) };
  others = λ i h. refl;
  few = omega arith;
  within = omega arith;
  marked = λ k lt. absurd (omega arith);
  complete = λ b o lt marked. absurd (omega arith);
  passed = λ k lt. absurd (omega arith);
  apart = λ j k h lt. absurd (omega arith);
  spread = λ j k h lt. absurd (omega arith);
  placed = λ k lt. absurd (omega arith);
  down = λ k lt. absurd (omega arith);
  control = λ k lt. absurd (omega arith);
  begins = λ h. absurd (omega arith);
  follows = λ k lt. absurd (omega arith);
  last = λ k e. absurd (omega arith);
  unused = λ e. (refl, refl);
  tight = λ k lt. absurd (omega arith);
  level = λ h. absurd (omega arith);
  empty = λ p h. brought-none m was.heap moves p;
  filled = (omega arith, omega arith, omega arith, omega arith);
  taken = λ h. absurd (omega arith);
  dense = none-dense m slid was.table was.heap moves;
}

-- the planned moves can be made
pub slide-movable : (m : Areas) (slid : ℕ) (was : Contents) (runs : Runs m slid was) (now : Contents) (count : ℕ) (moves : ℕ → Move) (next room a : ℕ) → Sliding m slid was runs now count moves next room a → AllMovable m now.heap count moves
slide-movable m slid was runs now count moves next room a s =
    let here : (k : ℕ) → k < count → get_or now.heap (moves k).old 0 ≡ get_or was.heap (moves k).old 0 = λ k lt. s.others (moves k).old (λ j lj e. ⊎_elim
    (λ (h : j < k). let p = s.apart j k h lt in omega (arith, p, e))
    (λ (h : k ≤ j). ⊎_elim (λ (q : k ≡ j). let w : (moves k).old ≡ (moves j).old = ap (λ i. (moves i).old) q in omega (arith, w, e)) (λ (ne : k ≡ j → ⊥). let before : k < j = omega arith in let p = s.apart k j before lj in omega (arith, p, e)) (cases_eq k j))
    (cases_lt j k)) in
    let size : (k : ℕ) → k < count → size_at now.heap (moves k).old ≡ size_at was.heap (moves k).old = λ k lt. ap (λ n. n + 3) (fields_at-same was.heap now.heap (moves k).old (here k lt)) in
    record {
      each = λ k lt.
          let h = object-header m slid was runs (moves k).old (s.marked k lt).0 in
          let passed = s.passed k lt in
          let down = s.down k lt in
          let same = size k lt in
          record {
            header = (h.0, h.1, here k lt ∙ h.2);
            space = rw (s.control k lt).0 tt;
            old = omega (arith, passed, same, s.within);
            new = omega (arith, passed, down, same, s.within);
          };
      apart = λ j k h lt. let lj : j < count = omega arith in let p = s.spread j k h lt in let e = size j lj in inl (omega (arith, p, e));
      later = λ j k h lt. let lj : j < count = omega arith in let p = s.spread j k h lt in let d = s.down k lt in let e = size j lj in inl (omega (arith, p, d, e));
    }
