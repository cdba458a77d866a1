-- The pages that placing the objects of a roll claims.
use Rattle.std.proofs.Common.{◌≡◌, ◌≢◌, ℕ, ◌+◌, ◌-◌, ◌*◌, ◌≤◌, ◌<◌, ◌==◌, cond, nat_le, List, [], Option, Some, None, set, get_or, length, refl, sym, ap, subst, ◌∙◌, arith, inl, inr, true, false, add-one, get_or-set_same, get_or-set_other}
use Rattle.std.proofs.lemmas.Bool.{cases_eq}
use Rattle.std.proofs.lemmas.Bool.Decides.{nat_tests}
use Rattle.std.proofs.lemmas.List.{get_or_past}
use Rattle.object_layout.specs.declared.names.Name.{Name}
use Rattle.object_layout.specs.declared.TheConstants.{MAX_SPACE, OBJECT_WORDS}
use Rattle.epoch_lattice.specs.declared.Space.{Space}
use Rattle.epoch_lattice.specs.declared.Space.TheVariants.{Control, Region}
use Rattle.epoch_lattice.specs.Lattice.{space_of}
use Rattle.epoch_lattice.proofs.Numbers.{number-most}
use Rattle.heap_words.specs.declared.map.Areas.{Areas}
use Rattle.heap_words.specs.Map.{heap_length, page_words, scratch_length}
use Rattle.heap_words.specs.Cells.{row}
use Rattle.heap_words.specs.Contents.{Contents, with_scratch}
use Rattle.yak_model.specs.Stands.{current}
use Rattle.yak_model.specs.Placed.{size_by}
use Rattle.yak_model.proofs.Data.{Tells}
use Rattle.region_pages.specs.Placement.{words_left_at}
use Rattle.heap_walks.specs.Laid.{work_of}
use Rattle.heap_walks.proofs.Objects.{counted, in_heap, size_is}
use Rattle.relocation.specs.declared.plans.TheConstants.{MOVE_WORDS}
use Rattle.std.proofs.Math.Path.{fun_ext}
use Rattle.escape_closure.specs.Rolls.{OnlyScratch, Aimed, AimsInside, Rolled}
use Rattle.escape_closure.specs.Placing.{EntryAt, Filling, OnlyRooms, RoomsStand, claims, filled, filling, left, room_in, rooms_at}
use Rattle.escape_closure.proofs.Rolls.{same_is}

pub other_is : (a b x y : ℕ) → a ≢ b → cond (a == b) x y ≡ y
other_is a b x y ne = grind (arith, nat_tests)

pub left_fits : (m : Areas) (size room : ℕ) → size ≤ room → left m size room ≡ room - size
left_fits m size room le = grind (arith, nat_tests)

pub left_claims : (m : Areas) (size room : ℕ) → room < size → left m size room ≡ page_words m - size
left_claims m size room lt = grind (arith, nat_tests)

pub claims_none : (size room : ℕ) → size ≤ room → claims size room ≡ 0
claims_none size room le = grind (arith, nat_tests)

pub claims_one : (size room : ℕ) → room < size → claims size room ≡ 1
claims_one size room lt = grind (arith, nat_tests)

pub claims_most : (size room : ℕ) → claims size room ≤ 1
claims_most size room = elim (nat_le size room) as (λ b. cond b 0 1 ≤ 1) [
  | true ↦ omega arith
  | false ↦ omega arith
]

-- a thread that the heap hasn't
pub no_thread : (m : Areas) (c : Contents) (t d : ℕ) → length c.currents ≡ m.threads → m.threads < t → words_left_at m c t d ≡ 0
no_thread m c t d size gone =
    let none : row c.currents (t - 1) ≡ [] = get_or_past c.currents (t - 1) [] (omega (arith, size)) in
    let zero_page : current c.currents t d ≡ 0 = ap (λ (r : List ℕ). get_or r d 0) none in
    same_is (current c.currents t d) 0 _ _ zero_page

room_still : (m : Areas) (c : Contents) (s : List ℕ) (t : ℕ) (x : Option Space) → room_in m (record c { scratch = s }) t x ≡ room_in m c t x
room_still m c s t None = refl
room_still m c s t (Some Control) = refl
room_still m c s t (Some (Region u d)) = refl

-- the last words of the scratch area hold no page
pub rooms_still : (m : Areas) (c d : Contents) (t i : ℕ) → OnlyRooms m c d → rooms_at m d t i ≡ rooms_at m c t i
rooms_still m c d t i only = ap (λ (x : Contents). room_in m x t (space_of i)) only.frame ∙ room_still m c d.scratch t (space_of i)

pub only_first : (m : Areas) (c : Contents) → OnlyRooms m c c
only_first m c = record { frame = refl; before = λ i lt. refl }

pub only_more : (m : Areas) (c d after : Contents) (index v : ℕ) → OnlyRooms m c d → after ≡ with_scratch d (heap_length m + index) v → OnlyRooms m c after
only_more m c d after index v only made = record {
  frame = made ∙ ap (λ (x : Contents). record x { scratch = set d.scratch (heap_length m + index) v }) only.frame ∙ ap (λ (s : List ℕ). record c { scratch = s }) (sym (ap (λ (x : Contents). x.scratch) made));
  before = λ i lt. ap (λ (x : Contents). get_or x.scratch i 0) made ∙ get_or-set_other d.scratch (heap_length m + index) i v 0 (omega arith) ∙ only.before i lt;
}

pub only_then : (m : Areas) (c d after : Contents) → OnlyRooms m c d → OnlyRooms m d after → OnlyRooms m c after
only_then m c d after a b = record {
  frame = b.frame ∙ ap (λ (x : Contents). record x { scratch = after.scratch }) a.frame;
  before = λ i lt. b.before i lt ∙ a.before i lt;
}

-- the roll lies before them
abbrev pub roll_still : (m : Areas) (q : Aimed) (c d : Contents) (count : ℕ) → length d.scratch ≡ length c.scratch → OnlyRooms m c d → Rolled q c (heap_length m) count → Rolled q d (heap_length m) count
roll_still m q c d count size only r = record {
  name = r.name;
  aimed = r.aimed;
  below = r.below;
  ascending = r.ascending;
  stands = λ k lt. only.before (MOVE_WORDS * k) (omega (arith, r.room, lt)) ∙ r.stands k lt;
  room = r.room;
  frame = only.frame ∙ ap (λ (x : Contents). record x { scratch = d.scratch }) r.frame;
  size = size ∙ r.size;
}

-- an object of the roll
pub entry_of_roll : (m : Areas) (q : Aimed) (c : Contents) (count k : ℕ) → (r : Rolled q c (heap_length m) count) → k < count → EntryAt m q c (r.name k) k
entry_of_roll m q c count k r lt =
    let a = r.aimed k lt in
    record {
      object = a.0;
      present = a.1;
      aimed = a.2;
      place = r.stands k lt;
      room = omega (arith, r.room, lt);
      header = ap (λ (x : Contents). get_or x.heap (q.laid.places.at (r.name k)) 0) r.frame;
      work = ap (λ (x : Contents). get_or x.heap (q.laid.places.at (r.name k) + 2) 0) r.frame;
    }

module _ (m : Areas) (q : Aimed) (c : Contents) (n : Name) (k : ℕ) (ready : AimsInside m q) (e : EntryAt m q c n k) where
  pub object_fits : get_or c.scratch (MOVE_WORDS * k) 0 + OBJECT_WORDS ≤ heap_length m
  object_fits = let b = in_heap m q.laid n e.object ready.among.stands e.present in omega (arith, b, e.place)

  pub size_told : (fields : ℕ) → Tells (get_or c.heap (get_or c.scratch (MOVE_WORDS * k) 0) 0) fields → fields + OBJECT_WORDS ≡ size_by q.laid.state.objects n
  size_told fields tells =
      let header : get_or c.heap (get_or c.scratch (MOVE_WORDS * k) 0) 0 ≡ get_or q.words.heap (q.laid.places.at n) 0 = ap (λ a. get_or c.heap a 0) e.place ∙ e.header in
      let told : Tells (get_or q.words.heap (q.laid.places.at n) 0) fields = subst (λ w. Tells w fields) header tells in
      let size = counted m q.laid q.words n e.object (q.laid.places.at n) fields ready.among e.present refl told in
      omega (arith, size, size_is q.laid n e.object e.present)

  pub index_told : get_or c.heap (get_or c.scratch (MOVE_WORDS * k) 0 + 2) 0 ≡ (work_of q.laid q.words n - 1) + 1
  index_told =
      let some = e.aimed in
      let word : get_or c.heap (get_or c.scratch (MOVE_WORDS * k) 0 + 2) 0 ≡ work_of q.laid q.words n = ap (λ a. get_or c.heap (a + 2) 0) e.place ∙ e.work in
      omega (arith, word, some)

  pub index_low : work_of q.laid q.words n - 1 ≤ MAX_SPACE
  index_low =
      let t = ready.tells n e.object e.present e.aimed in
      omega (arith, t.2, number-most t.0 t.1)

-- no object, and one more
pub filling_none : (m : Areas) (rooms index size : ℕ → ℕ) → filling m rooms index size 0 ≡ record { rooms = rooms; claimed = 0 }
unfolding filling
filling_none m rooms index size = refl

pub filling_more : (m : Areas) (rooms index size : ℕ → ℕ) (k : ℕ) → filling m rooms index size (k + 1) ≡ filled m (filling m rooms index size k) (index k) (size k)
unfolding filling
filling_more m rooms index size k = rw (add-one) refl

pub rooms_more : (m : Areas) (c d : Contents) (f : Filling) (index size : ℕ) → index ≤ MAX_SPACE → length c.scratch ≡ scratch_length m → RoomsStand m c f.rooms → d ≡ with_scratch c (heap_length m + index) (left m size (get_or c.scratch (heap_length m + index) 0)) → RoomsStand m d (filled m f index size).rooms
rooms_more m c d f index size low long stand made i le =
    let place : ℕ = heap_length m + index in
    let v : ℕ = left m size (get_or c.scratch place 0) in
    elim (cases_eq i index) [
      | inl e ↦
          ap (λ (x : Contents). get_or x.scratch (heap_length m + i) 0) made ∙ ap (λ j. get_or (set c.scratch place v) (heap_length m + j) 0) e ∙ get_or-set_same c.scratch place v 0 (omega (arith, low, long))
          ∙ ap (left m size) (stand index low) ∙ sym (same_is i index (left m size (f.rooms index)) (f.rooms i) e)
      | inr ne ↦
          ap (λ (x : Contents). get_or x.scratch (heap_length m + i) 0) made ∙ get_or-set_other c.scratch place (heap_length m + i) v 0 (omega (arith, ne)) ∙ stand i le ∙ sym (other_is i index (left m size (f.rooms index)) (f.rooms i) ne)
    ]

pub rooms_scratch : (m : Areas) (c d : Contents) (t i : ℕ) → OnlyScratch c d → rooms_at m d t i ≡ rooms_at m c t i
rooms_scratch m c d t i only = ap (λ (x : Contents). room_in m x t (space_of i)) only ∙ room_still m c d.scratch t (space_of i)

-- from the same rooms the same is claimed
pub filling_rooms : (m : Areas) (rooms others index size : ℕ → ℕ) (k : ℕ) → ((i : ℕ) → rooms i ≡ others i) → filling m rooms index size k ≡ filling m others index size k
filling_rooms m rooms others index size k same = ap (λ (f : ℕ → ℕ). filling m f index size k) (fun_ext same)
