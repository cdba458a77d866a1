-- The roll of the escaping objects, an object, a page and a heap more.
use Rattle.std.proofs.Common.{◌≡◌, ◌≢◌, ℕ, ◌+◌, ◌*◌, ◌≤◌, ◌<◌, ◌==◌, cond, List, take, get_or, [], length, refl, Bool, true, false, sym, ap, subst, ◌∙◌, arith, inl, inr, eqb, eq-eqb, length-set, get_or-set_same, get_or-set_other}
use Rattle.std.proofs.lemmas.Bool.{cases_eq, cases_lt}
use Rattle.std.proofs.lemmas.List.{get_or_past, take_all}
use Rattle.epoch_lattice.specs.declared.Space.{Space}
use Rattle.heap_words.specs.Cells.{row}
use Rattle.std.proofs.lemmas.Bool.Decides.{nat_tests}
use Rattle.std.proofs.lemmas.List.Sums.{sum_by_more}
use Rattle.object_layout.specs.declared.names.Name.{Name}
use Rattle.object_layout.specs.declared.TheConstants.{OBJECT_WORDS}
use Rattle.epoch_lattice.specs.Lattice.{space_index}
use Rattle.heap_words.specs.declared.map.Areas.{Areas}
use Rattle.heap_words.specs.Map.{heap_length}
use Rattle.heap_words.specs.Contents.{Contents, with_scratch}
use Rattle.yak_model.specs.Names.{root_name}
use Rattle.yak_model.specs.State.{Thing}
use Rattle.yak_model.specs.Placed.{space_word}
use Rattle.yak_model.specs.Stands.{pages_of}
use Rattle.heap_walks.specs.Laid.{IsAmong, IsThing, work_of}
use Rattle.heap_walks.specs.Walked.{IsPagePassed}
use Rattle.heap_walks.proofs.Objects.{in_heap}
use Rattle.region_pages.specs.Counts.{used_by, used_of}
use Rattle.relocation.specs.declared.plans.TheConstants.{MOVE_WORDS}
use Rattle.escape_closure.specs.Rolls.{OnlyScratch, Aimed, AimsInside, IsAimed, Rolled, IsOnRoll, Grows, ArePagesRolled}

pub same_is : (a b x y : ℕ) → a ≡ b → cond (a == b) x y ≡ x
same_is a b x y e = rw (eq-eqb a b e) refl

pub scratch_then : (c d after : Contents) → OnlyScratch c d → OnlyScratch d after → OnlyScratch c after
scratch_then c d after a b = b ∙ ap (λ (x : Contents). record x { scratch = after.scratch }) a

pub scratch_written : (c d : Contents) (k v : ℕ) → d ≡ with_scratch c k v → OnlyScratch c d
scratch_written c d k v made = made ∙ ap (λ (s : List ℕ). record c { scratch = s }) (sym (ap (λ (x : Contents). x.scratch) made))

-- what a roll leaves
module _ (m : Areas) (q : Aimed) (c : Contents) (limit count : ℕ) (ready : AimsInside m q) (r : Rolled q c limit count) where
  pub among_now : IsAmong m q.laid c
  among_now = record {
    areas = ready.among.areas;
    stands = ready.among.stands;
    frame = r.frame ∙ ap (λ (x : Contents). record x { scratch = c.scratch }) ready.among.frame ∙ ap (λ (hs : List ℕ). record q.laid.before { scratch = c.scratch; heap = hs }) (sym (ap (λ (x : Contents). x.heap) r.frame));
    kept = λ a k. ap (λ (x : Contents). get_or x.heap a 0) r.frame ∙ ready.among.kept a k;
    heap_size = ap (λ (x : Contents). length x.heap) r.frame ∙ ready.among.heap_size;
    scratch_size = r.size ∙ ready.among.scratch_size;
  }

  pub work_now : (n : Name) → work_of q.laid c n ≡ work_of q.laid q.words n
  work_now n = ap (λ (x : Contents). work_of q.laid x n) r.frame

  pub table_is : c.table ≡ q.words.table
  table_is = ap (λ (x : Contents). x.table) r.frame

  abbrev pub wider : (more : ℕ) → limit ≤ more → Rolled q c more count
  wider more le = record {
    name = r.name;
    aimed = r.aimed;
    below = λ k lt. let b = r.below k lt in omega (arith, b, le);
    ascending = r.ascending;
    stands = r.stands;
    room = omega (arith, r.room, le);
    frame = r.frame;
    size = r.size;
  }

abbrev pub first_roll : (q : Aimed) (c : Contents) → q.words ≡ c → Rolled q c 0 0
first_roll q c same = record {
  name = λ k. root_name;
  aimed = λ k lt. absurd (omega (arith, lt));
  below = λ k lt. absurd (omega (arith, lt));
  ascending = λ j k l lt. absurd (omega (arith, lt));
  stands = λ k lt. absurd (omega (arith, lt));
  room = omega arith;
  frame = ap (λ (x : Contents). record x { scratch = c.scratch }) (sym same);
  size = ap (λ (x : Contents). length x.scratch) (sym same);
}

abbrev pub grows_wider : (m : Areas) (q : Aimed) (c : Contents) (limit count more former : ℕ) (before : ℕ → Name) → AimsInside m q → Grows q c limit count before former → limit ≤ more → Grows q c more count before former
grows_wider m q c limit count more former before ready g le = record { roll = wider m q c limit count ready g.roll more le; more = g.more }

abbrev pub grows_first : (q : Aimed) (c : Contents) (limit count : ℕ) → (r : Rolled q c limit count) → Grows q c limit count r.name count
grows_first q c limit count r = record { roll = r; more = λ n on. on }

abbrev pub grows_then : (q : Aimed) (d : Contents) (limit count mid former : ℕ) (before between : ℕ → Name) → ((n : Name) → IsOnRoll q before former n → IsOnRoll q between mid n) → Grows q d limit count between mid → Grows q d limit count before former
grows_then q d limit count mid former before between first g = record { roll = g.roll; more = λ n on. g.more n (first n on) }

-- an object without a target
pub passes : (m : Areas) (q : Aimed) (c : Contents) (a count : ℕ) (n : Name) (o : Thing) → AimsInside m q → (r : Rolled q c a count) → a ≡ q.laid.places.at n → get_or c.heap (a + 2) 0 ≡ 0 → (limit : ℕ) → limit ≡ a + (length o.fields + OBJECT_WORDS) → (s : Grows q c limit count r.name count) × IsOnRoll q s.roll.name count n
passes m q c a count n o ready r at none limit is =
    let work : work_of q.laid q.words n ≡ 0 = sym (work_now m q c a count ready r n) ∙ ap (λ i. get_or c.heap (i + 2) 0) (sym at) ∙ none in
    (record { roll = wider m q c a count ready r limit (omega (arith, is)); more = λ x on. on }, λ aimed. absurd (aimed work))

-- an object with one
module _ (m : Areas) (q : Aimed) (c : Contents) (a count : ℕ) (n : Name) (o : Thing) (ready : AimsInside m q) (r : Rolled q c a count) (present : IsThing q.laid n o) (at : a ≡ q.laid.places.at n) where
  pub room_now : MOVE_WORDS * count + OBJECT_WORDS ≤ heap_length m
  room_now = let b = in_heap m q.laid n o ready.among.stands present in omega (arith, r.room, at, b)

  within : MOVE_WORDS * count < length c.scratch
  within = let b = room_now in omega (arith, b, r.size, ready.among.scratch_size)

  abbrev pub next_name : ℕ → Name
  next_name k = cond (eqb k count) n (r.name k)

  pub own : next_name count ≡ n
  own = rw (eq-eqb count count refl) refl

  pub old : (k : ℕ) → k < count → next_name k ≡ r.name k
  old k lt = let ne : eqb k count ≡ false = grind (arith, nat_tests) in rw ne refl

  abbrev pub rolled : Contents
  rolled = with_scratch c (MOVE_WORDS * count) a

  pub own_word : get_or rolled.scratch (MOVE_WORDS * count) 0 ≡ a
  own_word = get_or-set_same c.scratch (MOVE_WORDS * count) a 0 within

  pub old_word : (k : ℕ) → k < count → get_or rolled.scratch (MOVE_WORDS * k) 0 ≡ get_or c.scratch (MOVE_WORDS * k) 0
  old_word k lt = get_or-set_other c.scratch (MOVE_WORDS * count) (MOVE_WORDS * k) a 0 (omega arith)

  abbrev pub roll_more : IsAimed q n → (limit : ℕ) → limit ≡ a + (length o.fields + OBJECT_WORDS) → Rolled q rolled limit (count + 1)
  roll_more aimed limit is = record {
    name = next_name;
    aimed = λ k lt. elim (cases_eq k count) [
      | inl e ↦ (o, ap (λ i. q.laid.state.objects (next_name i)) e ∙ ap q.laid.state.objects own ∙ present, subst (IsAimed q) (sym (ap next_name e ∙ own)) aimed)
      | inr ne ↦ let lt' : k < count = omega arith in let w = r.aimed k lt' in (w.0, ap q.laid.state.objects (old k lt') ∙ w.1, subst (IsAimed q) (sym (old k lt')) w.2)
    ];
    below = λ k lt. elim (cases_eq k count) [
      | inl e ↦ let same : q.laid.places.at (next_name k) ≡ q.laid.places.at n = ap q.laid.places.at (ap next_name e ∙ own) in omega (arith, same, at, is)
      | inr ne ↦ let lt' : k < count = omega arith in let b = r.below k lt' in let same : q.laid.places.at (next_name k) ≡ q.laid.places.at (r.name k) = ap q.laid.places.at (old k lt') in omega (arith, same, b, is)
    ];
    ascending = λ j k l lt.
        let lj : j < count = omega arith in
        let sj : q.laid.places.at (next_name j) ≡ q.laid.places.at (r.name j) = ap q.laid.places.at (old j lj) in
        elim (cases_eq k count) [
          | inl e ↦ let b = r.below j lj in let same : q.laid.places.at (next_name k) ≡ q.laid.places.at n = ap q.laid.places.at (ap next_name e ∙ own) in omega (arith, same, sj, at, b)
          | inr ne ↦ let lk : k < count = omega arith in let b = r.ascending j k l lk in let same : q.laid.places.at (next_name k) ≡ q.laid.places.at (r.name k) = ap q.laid.places.at (old k lk) in omega (arith, same, sj, b)
        ];
    stands = λ k lt. elim (cases_eq k count) [
      | inl e ↦ ap (λ i. get_or rolled.scratch (MOVE_WORDS * i) 0) e ∙ own_word ∙ at ∙ ap q.laid.places.at (sym (ap next_name e ∙ own))
      | inr ne ↦ let lk : k < count = omega arith in old_word k lk ∙ r.stands k lk ∙ ap q.laid.places.at (sym (old k lk))
    ];
    room = omega (arith, r.room, is);
    frame = ap (λ (x : Contents). record x { scratch = rolled.scratch }) r.frame;
    size = length-set c.scratch (MOVE_WORDS * count) a ∙ r.size;
  }

  pub goes_on : get_or c.heap (a + 2) 0 ≢ 0 → (limit : ℕ) → limit ≡ a + (length o.fields + OBJECT_WORDS) → (s : Grows q rolled limit (count + 1) r.name count) × IsOnRoll q s.roll.name (count + 1) n
  goes_on some limit is =
      let work : get_or c.heap (a + 2) 0 ≡ work_of q.laid q.words n = ap (λ i. get_or c.heap (i + 2) 0) at ∙ work_now m q c a count ready r n in
      let aimed : IsAimed q n = λ z. some (work ∙ z) in (
        record {
          roll = roll_more aimed limit is;
          more = λ x on yes. let w = on yes in (w.0, omega (arith, w.1), old w.0 w.1 ∙ w.2);
        },
        λ yes. (count, omega arith, own),
      )

-- a page of another space
pub other_page : (m : Areas) (q : Aimed) (name : ℕ → Name) (count page space : ℕ) → AimsInside m q → space ≡ space_word q.words.table page → space ≢ space_index q.region + 1 → IsPagePassed q.laid (IsOnRoll q name count) page
other_page m q name count page space ready is other n k at aimed =
    let w = ready.among.stands.heap.whole n page k at in
    let home = ready.inside n w.0 w.1 aimed in
    let table : q.words.table ≡ q.laid.before.table = ap (λ (x : Contents). x.table) ready.among.frame in
    absurd (other (is ∙ ap (λ t. space_word t page) table ∙ w.2 ∙ ap (λ x. space_index x + 1) home))

-- all pages
pub all_rolled : (m : Areas) (q : Aimed) (name : ℕ → Name) (count : ℕ) → AimsInside m q → ArePagesRolled q name count m.pages → (n : Name) (o : Thing) → IsThing q.laid n o → IsOnRoll q name count n
all_rolled m q name count ready pages n o present =
    let at = ready.among.stands.heap.present n o present in
    pages at.0 (omega (arith, at.2.page, ready.among.stands.heap.count)) n at.1 at.2

pub pages_more : (q : Aimed) (before name : ℕ → Name) (former count page : ℕ) → ArePagesRolled q before former page → ((n : Name) → IsOnRoll q before former n → IsOnRoll q name count n) → IsPagePassed q.laid (IsOnRoll q name count) page → ArePagesRolled q name count (page + 1)
pages_more q before name former count page pages more now p lt = elim (cases_eq p page) [
  | inl e ↦ subst (IsPagePassed q.laid (IsOnRoll q name count)) (sym e) now
  | inr ne ↦ λ n k at. more n (pages p (omega arith) n k at)
]

flat : (b : Bool) (k : ℕ) → cond b k k ≡ k
flat true k = refl
flat false k = refl

used_none : (x : Space) → used_by x [] ≡ 0
used_none x = flat (0 == space_index x + 1) 0

no_page : (k : ℕ) → cond {A = ℕ} (0 == k + 1) 1 0 ≡ 0
no_page k = grind (arith, nat_tests)

-- the pages of a region among the first pages, and among one page more
pub pages_next : (table : List (List ℕ)) (x : Space) (page : ℕ) → pages_of (take page table) x + cond (space_word table page == space_index x + 1) 1 0 ≤ pages_of (take (page + 1) table) x
pages_next table x page = elim (cases_lt page (length table)) [
  | inl lt ↦ let more = sum_by_more (λ (r : List ℕ). cond {A = ℕ} (get_or r 0 0 == space_index x + 1) 1 0) table page [] lt in omega (arith, more)
  | inr le ↦
      let none : row table page ≡ [] = get_or_past table page [] le in
      let zero : cond {A = ℕ} (space_word table page == space_index x + 1) 1 0 ≡ 0 = ap (λ (r : List ℕ). cond {A = ℕ} (get_or r 0 0 == space_index x + 1) 1 0) none ∙ no_page (space_index x) in
      let all : take page table ≡ table = take_all page table le in
      let whole : take (page + 1) table ≡ table = take_all (page + 1) table (omega (arith, le)) in
      let a : pages_of (take page table) x ≡ pages_of table x = ap (λ (t : List (List ℕ)). pages_of t x) all in
      let b : pages_of (take (page + 1) table) x ≡ pages_of table x = ap (λ (t : List (List ℕ)). pages_of t x) whole in
      omega (arith, zero, a, b)
]

-- the words in use in the first pages of a region, and in one page more
pub used_next : (table : List (List ℕ)) (x : Space) (page : ℕ) → used_of (take page table) x + used_by x (row table page) ≤ used_of (take (page + 1) table) x
used_next table x page = elim (cases_lt page (length table)) [
  | inl lt ↦ let more = sum_by_more (used_by x) table page [] lt in omega (arith, more)
  | inr le ↦
      let none : row table page ≡ [] = get_or_past table page [] le in
      let zero : used_by x (row table page) ≡ 0 = ap (used_by x) none ∙ used_none x in
      let all : take page table ≡ table = take_all page table le in
      let whole : take (page + 1) table ≡ table = take_all (page + 1) table (omega (arith, le)) in
      let a : used_of (take page table) x ≡ used_of table x = ap (λ (t : List (List ℕ)). used_of t x) all in
      let b : used_of (take (page + 1) table) x ≡ used_of table x = ap (λ (t : List (List ℕ)). used_of t x) whole in
      omega (arith, zero, a, b)
]
