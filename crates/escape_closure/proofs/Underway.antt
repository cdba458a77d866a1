-- Placing the objects of a roll, one after another.
use Rattle.std.proofs.Common.{◌≡◌, ◌≢◌, ℕ, ◌+◌, ◌-◌, ◌*◌, ◌≤◌, ◌<◌, List, Some, set, get_or, length, refl, sym, ap, subst, ◌∙◌, arith, inl, inr, get_or-set_other, zero, suc}
use Rattle.std.specs.Prelude.{unwrap_or}
use Rattle.std.proofs.lemmas.Bool.{cases_eq}
use Rattle.epoch_lattice.specs.declared.Space.{Space}
use Rattle.epoch_lattice.specs.declared.Space.TheVariants.{Control, Region}
use Rattle.epoch_lattice.specs.Lattice.{space_index, space_of}
use Rattle.epoch_lattice.proofs.Numbers.{number-reads_back}
use Rattle.heap_words.specs.declared.map.Areas.{Areas}
use Rattle.heap_words.specs.Map.{HasThread, IsAreas, heap_length}
use Rattle.heap_words.specs.Contents.{Contents}
use Rattle.yak_model.specs.Packed.{IsSpaceOf}
use Rattle.yak_model.specs.Stands.{CurrentsStand, PoolStands, free_pages}
use Rattle.heap_walks.specs.Laid.{work_of}
use Rattle.heap_walks.proofs.Objects.{kept_word}
use Rattle.region_pages.specs.Placement.{IsPlaced}
use Rattle.region_pages.proofs.Shapes.{Shape}
use Rattle.relocation.specs.Moves.{move_at}
use Rattle.relocation.specs.declared.plans.TheConstants.{MOVE_WORDS}
use Rattle.escape_closure.specs.declared.needing.Entry.{Entry}
use Rattle.escape_closure.specs.Rolls.{Aimed, AimsInside, Rolled}
use Rattle.escape_closure.specs.InTurn.{PlacedInTurn}
use Rattle.escape_closure.specs.Placing.{EntryAt, Filling, claims, filled, index_on, owner, room_in, rooms_at, size_on, target_on}
use Rattle.escape_closure.specs.Planning.{NotPlaced, PlacedNext, TargetsExist, Underway, filled_by}
use Rattle.escape_closure.proofs.Placing.{claims_one, entry_of_roll, filling_more, filling_none}
use Rattle.escape_closure.proofs.Follows.{free_follows, is_valid, placed_heap, room_is, rooms_follow}
use Rattle.escape_closure.proofs.InTurn.{in_turn_between, in_turn_first, in_turn_more, in_turn_same, placed_beside}

some_is : (a b : Space) → Some a ≡ Some b → a ≡ b
some_is a b e = cc

room_kept : (m : Areas) (c : Contents) (s h : List ℕ) (t : ℕ) (y : Space) → room_in m (record c { scratch = s; heap = h }) t (Some y) ≡ room_in m c t (Some y)
room_kept m c s h t Control = refl
room_kept m c s h t (Region u d) = refl

module _ (m : Areas) (q : Aimed) (t : ℕ) (c : Contents) (count : ℕ) (r : Rolled q c (heap_length m) count) (ready : AimsInside m q) (exist : TargetsExist m q) (areas : IsAreas m) (has : HasThread m t) where
  claims_more : (k : ℕ) → (filled_by m q t c count r (k + 1)).claimed ≡ (filled_by m q t c count r k).claimed + claims (size_on q c (heap_length m) count r k) ((filled_by m q t c count r k).rooms (index_on q c (heap_length m) count r k))
  claims_more k = ap (λ (f : Filling). f.claimed) (filling_more m (rooms_at m c t) (index_on q c (heap_length m) count r) (size_on q c (heap_length m) count r) k)

  claims_grow : (k j : ℕ) → (filled_by m q t c count r k).claimed ≤ (filled_by m q t c count r (k + j)).claimed
  claims_grow k zero = let same : (filled_by m q t c count r (k + 0)).claimed ≡ (filled_by m q t c count r k).claimed = ap (λ i. (filled_by m q t c count r i).claimed) (omega arith) in omega (arith, same)
  claims_grow k (suc j) =
      let before = claims_grow k j in
      let more = claims_more (k + j) in
      let same : (filled_by m q t c count r (k + suc j)).claimed ≡ (filled_by m q t c count r (k + j + 1)).claimed = ap (λ i. (filled_by m q t c count r i).claimed) (omega arith) in
      omega (arith, before, more, same)

  -- the next object stands as the targets left it
  module _ (now : Contents) (k : ℕ) (u : Underway m q t c count r now k) (lt : k < count) where
    pub entry_now : EntryAt m q now (r.name k) k
    entry_now =
        let e = entry_of_roll m q c count k r lt in
        record {
          object = e.object;
          present = e.present;
          aimed = e.aimed;
          place = u.unread k (omega arith) lt;
          room = e.room;
          header = u.heap (q.laid.places.at (r.name k)) (λ j before at.
              let a = r.aimed j (omega (arith, before, lt)) in
              kept_word m q.laid (r.name k) e.object 0 ready.among.stands e.present (omega arith) (omega arith) (r.name j) a.0 a.1 (omega (arith, at))) ∙ e.header;
          work = u.heap (q.laid.places.at (r.name k) + 2) (λ j before at. let up = r.ascending j k before lt in omega (arith, up, at)) ∙ e.work;
        }

    target : (x : Space) × IsSpaceOf m x × (work_of q.laid q.words (r.name k) ≡ space_index x + 1)
    target = let a = r.aimed k lt in let x = exist (r.name k) a.0 a.1 a.2 in (x.0, x.1, x.2)

    index_is : index_on q c (heap_length m) count r k ≡ space_index target.0
    index_is = let w = target.2 in omega (arith, w)

    -- it has a place
    pub has_place : (entry : Entry) → entry.index ≡ index_on q c (heap_length m) count r k → entry.size ≡ size_on q c (heap_length m) count r k → (filled_by m q t c count r count).claimed ≤ length (free_pages c.heads c.pool) → NotPlaced m now t entry → ⊥
    has_place entry index size enough none =
        let x = target in
        let number : space_of entry.index ≡ Some x.0 = ap space_of (index ∙ index_is) ∙ number-reads_back x.0 (is_valid m x.0 areas x.1) in
        let w = none x.0 number x.1 in
        let few : (filled_by m q t c count r k).rooms (index_on q c (heap_length m) count r k) < size_on q c (heap_length m) count r k =
        let is : room_in m now t (Some x.0) ≡ (filled_by m q t c count r k).rooms (index_on q c (heap_length m) count r k) = u.rooms x.0 x.1 ∙ ap (filled_by m q t c count r k).rooms (sym index_is) in
        omega (arith, w.0, is, room_is m now t x.0, size)
        in
        let one = claims_one (size_on q c (heap_length m) count r k) ((filled_by m q t c count r k).rooms (index_on q c (heap_length m) count r k)) few in
        let nothing : length (free_pages now.heads now.pool) ≡ 0 = ap (λ (ps : List ℕ). length ps) w.1 in
        let more = claims_more k in
        let grow = claims_grow (k + 1) (count - (k + 1)) in
        let ends : (filled_by m q t c count r (k + 1 + (count - (k + 1)))).claimed ≡ (filled_by m q t c count r count).claimed = ap (λ i. (filled_by m q t c count r i).claimed) (omega (arith, lt)) in
        omega (arith, u.free, nothing, one, more, grow, ends, enough)

    -- and it is placed in turn
    in_turn_on : (after : Contents) (entry : Entry) → entry.index ≡ index_on q c (heap_length m) count r k → entry.size ≡ size_on q c (heap_length m) count r k → PlacedNext m now after t k entry → PlacedInTurn m t (k + 1) (target_on q c (heap_length m) count r) (size_on q c (heap_length m) count r) (λ j. (move_at after.scratch j).new) c (record after { scratch = c.scratch; heap = c.heap })
    in_turn_on after entry index size p =
        let to : ℕ → Space = target_on q c (heap_length m) count r in
        let sizes : ℕ → ℕ = size_on q c (heap_length m) count r in
        let here : Contents = record now { scratch = c.scratch; heap = c.heap } in
        let there : Contents = record p.between { scratch = c.scratch; heap = c.heap } in
        let is : p.space ≡ to k = sym (ap (λ x. unwrap_or x Control) p.number) ∙ ap (λ i. unwrap_or (space_of i) Control) index in
        let new : p.new ≡ (move_at after.scratch k).new = sym (ap (λ v. v.new) p.move) in
        let step : IsPlaced m here (owner t p.space) p.space entry.size p.new there = placed_beside m now p.between c.scratch c.heap (owner t p.space) entry.size p.new p.space p.placed in
        let next : IsPlaced m here (owner t (to k)) (to k) (sizes k) (move_at after.scratch k).new there =
        subst (λ x. IsPlaced m here (owner t x) x (sizes k) (move_at after.scratch k).new there) is (subst (λ n. IsPlaced m here (owner t p.space) p.space n (move_at after.scratch k).new there) size (subst (λ a. IsPlaced m here (owner t p.space) p.space entry.size a there) new step))
        in
        let before : PlacedInTurn m t k to sizes (λ j. (move_at after.scratch j).new) c here =
        in_turn_same m t k to to sizes sizes (λ j. (move_at now.scratch j).new) (λ j. (move_at after.scratch j).new) c here (λ j lt. refl) (λ j lt. refl) (λ j lt. sym (ap (λ v. v.new) (p.former j lt))) u.in_turn
        in
        in_turn_between m t (k + 1) to sizes (λ j. (move_at after.scratch j).new) c c there (record after { scratch = c.scratch; heap = c.heap }) refl (sym (ap (λ (z : Contents). record z { scratch = c.scratch; heap = c.heap }) p.marked)) (in_turn_more m t k to sizes (λ j. (move_at after.scratch j).new) c here there before next)

    pub goes_on : (after : Contents) (entry : Entry) → entry.old ≡ q.laid.places.at (r.name k) → entry.index ≡ index_on q c (heap_length m) count r k → entry.size ≡ size_on q c (heap_length m) count r k → 3 ≤ entry.size → Shape m now → CurrentsStand m now.currents now.table → PoolStands m now.heads now.pool now.table → PlacedNext m now after t k entry → Underway m q t c count r after (k + 1)
    goes_on after entry old index size least shape currents pool p =
        let x = target in
        let f : Filling = filled_by m q t c count r k in
        let number : space_of entry.index ≡ Some x.0 = ap space_of (index ∙ index_is) ∙ number-reads_back x.0 (is_valid m x.0 areas x.1) in
        let same : p.space ≡ x.0 = some_is p.space x.0 (sym p.number ∙ number) in
        let at : space_index p.space ≡ index_on q c (heap_length m) count r k = ap space_index same ∙ sym index_is in
        let next : filled m f (space_index p.space) entry.size ≡ filled_by m q t c count r (k + 1) =
        ap (λ i. filled m f i entry.size) at ∙ ap (λ z. filled m f (index_on q c (heap_length m) count r k) z) size ∙ sym (filling_more m (rooms_at m c t) (index_on q c (heap_length m) count r) (size_on q c (heap_length m) count r) k) in
        let rooms = rooms_follow m now p.between t entry.size p.space shape areas has least p.exists currents p.new pool p.placed f u.rooms in
        let free = free_follows m now p.between t entry.size p.space shape areas has least p.exists currents p.new pool p.placed f u.rooms in
        let heap_is : after.heap ≡ set now.heap (entry.old + 2) (k + 1) = ap (λ (y : Contents). y.heap) p.marked ∙ ap (λ (h : List ℕ). set h (entry.old + 2) (k + 1)) (placed_heap m now p.between (owner t p.space) entry.size p.new p.space p.placed) in
        record {
          heap = λ a out.
              let apart : a ≢ entry.old + 2 = λ z. out k (omega arith) (omega (arith, z, old)) in
              ap (λ (h : List ℕ). get_or h a 0) heap_is ∙ get_or-set_other now.heap (entry.old + 2) a (k + 1) 0 apart ∙ u.heap a (λ j before. out j (omega (arith, before)));
          unread = λ j le within. p.behind (MOVE_WORDS * j) (omega (arith, le)) ∙ u.unread j (omega (arith, le)) within;
          rooms = λ y oy. ap (λ (z : Contents). room_in m z t (Some y)) p.marked ∙ room_kept m p.between after.scratch (set p.between.heap (entry.old + 2) (k + 1)) t y ∙ rooms y oy ∙ ap (λ (g : Filling). g.rooms (space_index y)) next;
          free =
              let pages : length (free_pages after.heads after.pool) ≡ length (free_pages p.between.heads p.between.pool) = ap (λ (y : Contents). length (free_pages y.heads y.pool)) p.marked in
              let cost : (filled m f (space_index p.space) entry.size).claimed ≡ (filled_by m q t c count r (k + 1)).claimed = ap (λ (g : Filling). g.claimed) next in
              omega (arith, u.free, free, pages, cost);
          moves = λ j before. elim (cases_eq j k) [
            | inl e ↦ subst (λ i. ((move_at after.scratch i).old ≡ q.laid.places.at (r.name i)) × (space_index (move_at after.scratch i).space ≡ index_on q c (heap_length m) count r i)) (sym e) (ap (λ v. v.old) p.move ∙ old, ap (λ v. space_index v.space) p.move ∙ at)
            | inr ne ↦
                let earlier : j < k = omega (arith, before, ne) in
                let w = u.moves j earlier in
                (ap (λ v. v.old) (p.former j earlier) ∙ w.0, ap (λ v. space_index v.space) (p.former j earlier) ∙ w.1)
          ];
          in_turn = in_turn_on after entry index size p;
        }

pub starts : (m : Areas) (q : Aimed) (t : ℕ) (c : Contents) (count : ℕ) (r : Rolled q c (heap_length m) count) → IsAreas m → Underway m q t c count r c 0
starts m q t c count r areas =
    let none = filling_none m (rooms_at m c t) (index_on q c (heap_length m) count r) (size_on q c (heap_length m) count r) in
    record {
      heap = λ a out. refl;
      unread = λ j le lt. r.stands j lt;
      rooms = λ y oy. ap (room_in m c t) (sym (number-reads_back y (is_valid m y areas oy))) ∙ ap (λ (f : Filling). f.rooms (space_index y)) (sym none);
      free = let z : (filled_by m q t c count r 0).claimed ≡ 0 = ap (λ (f : Filling). f.claimed) none in omega (arith, z);
      moves = λ j lt. absurd (omega (arith, lt));
      in_turn = in_turn_first m t (target_on q c (heap_length m) count r) (size_on q c (heap_length m) count r) (λ j. (move_at c.scratch j).new) c c refl;
    }
