-- The fields of the objects that an end leaves, and the slots that lead into regions.
use Rattle.std.proofs.Common.{◌≡◌, ◌≢◌, ◌⊎◌, ℕ, ◌+◌, ◌-◌, ◌/◌, ◌≤◌, ◌<◌, Bool, true, false, Option, Some, List, length, get_or, refl, sym, ap, subst, ◌∙◌, arith, inl}
use Rattle.std.specs.List.{All, Contains}
use Rattle.std.proofs.Math.Logic.{⊎_elim}
use Rattle.std.proofs.lemmas.List.FromFn.{get_or-range_with_len, length-range_with_len}
use Rattle.std.proofs.lemmas.List.Elements.{All-from_get_or, Contains-get_or}
use Rattle.object_layout.specs.declared.names.Name.{Name}
use Rattle.object_layout.specs.declared.TheConstants.{OBJECT_WORDS}
use Rattle.object_layout.specs.Layout.{IsHeader}
use Rattle.heap_words.specs.declared.map.Areas.{Areas}
use Rattle.heap_words.specs.Map.{HasThread, IsAreas, heap_length, max_depth, page_words}
use Rattle.heap_words.specs.Contents.{Contents, depth_of}
use Rattle.epoch_lattice.specs.declared.Space.{Space}
use Rattle.epoch_lattice.specs.declared.Space.TheVariants.{Control}
use Rattle.epoch_lattice.specs.declared.TheConstants.{MAX_DEPTH}
use Rattle.epoch_lattice.specs.Lattice.{IsValid, space_index}
use Rattle.epoch_lattice.proofs.Numbers.{number-most, number-own}
use Rattle.yak_model.specs.Spaces.{SpaceState, innermost}
use Rattle.yak_model.specs.State.{IsClosed, IsOpen, Thing, object_of, view}
use Rattle.yak_model.specs.Placed.{HeapStands, Places, size_by, space_word, words_by}
use Rattle.yak_model.specs.Plans.{Move, forwarded, without}
use Rattle.yak_model.specs.Chains.{IsRegionOf}
use Rattle.yak_model.specs.Stands.{Stands}
use Rattle.yak_model.specs.Recorded.{Recorded}
use Rattle.yak_model.proofs.Chains.{region-valid}
use Rattle.yak_model.proofs.Names.{same_or_other}
use Rattle.yak_model.proofs.Placed.{apart}
use Rattle.relocation.specs.Moves.{HasHeader, fields_at}
use Rattle.relocation.proofs.Lawful.{by_move-at}
use Rattle.relocation.proofs.Moving.{fields_at-header}
use Rattle.remember_sets.specs.Filed.{IsSlot, PagesKnown, chain, enters, outside, page_word}
use Rattle.remember_sets.proofs.Entering.{Enter, enters-none, enters-since, enters-tells}
use Rattle.forwarding.specs.Crossing.{AreData, AreValid}
use Rattle.forwarding.specs.Slots.{slots_at}
use Rattle.forwarding.proofs.Entries.{Crosses, enters-crossing}
use Rattle.standing_calls.proofs.FieldSlots.{crossing-enters, field-slot, in-heap, page-of}
use Rattle.standing_calls.proofs.Homes.{region-of-heap}
use Rattle.standing_calls.proofs.Logs.{depths-fit, open-number}
use Rattle.standing_calls.proofs.Told.{open-space, space-valid}
use Rattle.escape_closure.specs.Targets.{IsEscaping}
use Rattle.escape_closure.specs.Leaves.{IsCrossingInto}
use Rattle.escape_closure.specs.Leaving.{EndMoves, left_behind, objects_left}
use Rattle.escape_closure.proofs.Brought.{IsBrought, outside-has}
use Rattle.escape_closure.proofs.Carries.{innermost_valid}
use Rattle.escape_closure.proofs.Fates.{OneEach, escaping_in, moves_so, one_each, stays_so}
use Rattle.escape_closure.proofs.Records.{data_left, valid_left}
use Rattle.escape_closure.proofs.Rehomed.{closed_after}

one_thing : (a b : Thing) → Some a ≡ Some b → a ≡ b
one_thing a b e = cc

-- a slot is a field of an object that is left
pub record FieldLeft (objects : Name → Option Thing) (at : Name → ℕ) (a : ℕ) : Type 0 where
  pub name : Name
  pub object : Thing
  pub field : ℕ
  pub present : objects name ≡ Some object
  pub within : field < length object.fields
  pub place : a ≡ at name + OBJECT_WORDS + field

-- the objects that are left lie in the words, in pages of open spaces other than the region
pub record Lies (m : Areas) (s : SpaceState) (l : Places) (t count : ℕ) (moves : ℕ → Move) (d : Contents) (later : Places) : Type 0 where
  pub at : later.at ≡ forwarded count moves l.at
  pub heap : HeapStands m d.table d.heap (objects_left s l t count moves) later (λ _. 0)
  pub spaces : (p : ℕ) → p < m.pages → (space_word d.table p ≡ 0) ⊎ ((x : Space) × (space_word d.table p ≡ space_index x + 1) × IsOpen (view s).depths x × (x ≢ innermost s.graph t))
  pub closed : IsClosed (without (view s) (left_behind s l t count moves))

module _ (m : Areas) (c : Contents) (s : SpaceState) (st : Stands m c s) (recorded : Recorded m c s st) (areas : IsAreas m) (t count : ℕ) (has : HasThread m t) (low : 1 ≤ depth_of c t) (moves : ℕ → Move) (tight : Bool) (e : EndMoves s st.places t count moves tight) (spaces : (k : ℕ) → k < count → IsValid MAX_DEPTH (moves k).space) (d : Contents) (later : Places) (lies : Lies m s st.places t count moves d later) where
  abbrev l : Places
  l = st.places

  abbrev region : Space
  region = innermost s.graph t

  abbrev left : Name → Option Thing
  left = objects_left s st.places t count moves

  valid : IsValid MAX_DEPTH (innermost s.graph t)
  valid = innermost_valid m c s st t areas has low

  one : OneEach s st.places
  one = one_each m c.table c.heap s st.places (λ _. 0) st.stands.heap

  leads : (n : Name) → later.at n ≡ forwarded count moves l.at n
  leads n = ap (λ (f : Name → ℕ). f n) lies.at

  are_data : AreData left
  are_data = data_left s st.whole l one t count has.0 valid moves tight e lies.closed

  pub are_valid : AreValid (objects_left s st.places t count moves)
  are_valid = valid_left s st.whole l one t count has.0 valid moves tight e spaces

  deep : (u : ℕ) → get_or (view s).depths (u - 1) 0 ≤ max_depth m
  deep = depths-fit m c (view s) l st.stands

  open_valid : (x : Space) → IsOpen (view s).depths x → IsValid MAX_DEPTH x
  open_valid x h = space-valid m x areas (open-space m (view s).depths x st.stands.threads deep h)

  -- ---- spaces

  pub pages_known : PagesKnown m d
  pages_known p lt = ⊎_elim
      (λ (z : space_word d.table p ≡ 0). omega (arith, z))
      (λ (x : (x : Space) × (space_word d.table p ≡ space_index x + 1) × IsOpen (view s).depths x × (x ≢ region)). omega (arith, x.1, open-number m (view s).depths x.0 st.stands.threads deep x.2))
      (lies.spaces p lt)

  -- an object that is left is in an open space that isn't the region
  pub open_now : (n : Name) (o : Thing) → objects_left s st.places t count moves n ≡ Some o → IsOpen (view s).depths o.home × (o.home ≢ innermost s.graph t)
  open_now n o h =
      let at = lies.heap.present n o h in
      let w = lies.heap.whole n at.0 at.1 at.2 in
      let word : space_word d.table at.0 ≡ space_index o.home + 1 = w.2 ∙ ap (λ (q : Thing). space_index q.home + 1) (one_thing w.0 o (sym w.1 ∙ h)) in
      ⊎_elim
      (λ (z : space_word d.table at.0 ≡ 0). absurd (omega (arith, z, word)))
      (λ (x : (x : Space) × (space_word d.table at.0 ≡ space_index x + 1) × IsOpen (view s).depths x × (x ≢ region)).
      let same : x.0 ≡ o.home = number-own x.0 o.home (open_valid x.0 x.2) (are_valid n o h) (omega (arith, word, x.1)) in
      (subst (IsOpen (view s).depths) same x.2, λ q. x.3 (same ∙ q)))
      (lies.spaces at.0 (omega (arith, at.2.page, lies.heap.count)))

  pub region_now : (n : Name) (o : Thing) → objects_left s st.places t count moves n ≡ Some o → o.home ≢ Control → IsRegionOf m o.home
  region_now n o h ne = region-of-heap m o.home (open-space m (view s).depths o.home st.stands.threads deep (open_now n o h).0) ne

  -- no reference enters the region, nor one that isn't open
  pub no_enter : (x : Space) (a : ℕ) → IsRegionOf m x → IsSlot m d a → (IsOpen (view s).depths x → x ≢ innermost s.graph t → ⊥) → Enter m d x a → ⊥
  no_enter x a r slot shut enter =
      let lt : enter.goal < heap_length m = slot.1 enter.goal enter.refers in
      ⊎_elim
      (λ (z : space_word d.table (enter.goal / page_words m) ≡ 0). omega (arith, z, enter.into))
      (λ (y : (y : Space) × (space_word d.table (enter.goal / page_words m) ≡ space_index y + 1) × IsOpen (view s).depths y × (y ≢ region)).
      let same : y.0 ≡ x = number-own y.0 x (open_valid y.0 y.2) (region-valid m x areas r) (omega (arith, enter.into, y.1)) in
      shut (subst (IsOpen (view s).depths) same y.2) (λ q. y.3 (same ∙ q)))
      (lies.spaces (enter.goal / page_words m) (omega (arith, lt)))

  -- ---- fields

  pub slot_left : (a : ℕ) → FieldLeft (objects_left s st.places t count moves) later.at a → IsSlot m d a
  slot_left a q = subst (IsSlot m d) (sym q.place) (field-slot m d left later (λ _. 0) q.name q.object q.field lies.heap are_data q.present q.within)

  -- two objects that are left have no field in common
  pub same_name : (a : ℕ) (p q : FieldLeft (objects_left s st.places t count moves) later.at a) → p.name ≡ q.name
  same_name a p q = ⊎_elim
      (λ (same : p.name ≡ q.name). same)
      (λ (ne : p.name ≢ q.name).
      let i = lies.heap.present p.name p.object p.present in
      let j = lies.heap.present q.name q.object q.present in
      let first : size_by left p.name ≡ length p.object.fields + OBJECT_WORDS = ap words_by p.present in
      let second : size_by left q.name ≡ length q.object.fields + OBJECT_WORDS = ap words_by q.present in
      absurd (⊎_elim
      (λ (before : later.at p.name + size_by left p.name ≤ later.at q.name). omega (arith, before, first, p.place, q.place, p.within))
      (λ (behind : later.at q.name + size_by left q.name ≤ later.at p.name). omega (arith, behind, second, p.place, q.place, q.within))
      (apart (page_words m) (size_by left) later p.name q.name i.0 i.1 j.0 j.1 lies.heap.tiles i.2 j.2 ne)))
      (same_or_other p.name q.name)

  -- what the header of an object tells
  is_header : (n : Name) (o : Thing) → left n ≡ Some o → IsHeader (record { fields = length o.fields; space = space_index o.home })
  is_header n o h =
      let few = ((closed_after count moves l.at (without (view s) (left_behind s l t count moves)) lies.closed).fields n o h).1 in
      let most = number-most o.home (are_valid n o h) in
      (few, omega (arith, most))

  fields_now : (n : Name) (o : Thing) → left n ≡ Some o → fields_at d.heap (later.at n) ≡ length o.fields
  fields_now n o h = fields_at-header d.heap (later.at n) (record { fields = length o.fields; space = space_index o.home }) (is_header n o h) (lies.heap.held n o h).header

  -- the object of a move
  pub record Mover (k : ℕ) : Type 0 where
    pub name : Name
    pub object : Thing
    pub present : objects_left s st.places t count moves name ≡ Some object
    pub escapes : IsEscaping s t name
    pub place : later.at name ≡ (moves k).new

  pub moved_to : (n : Name) (k : ℕ) → k < count → st.places.at n ≡ (moves k).old → later.at n ≡ (moves k).new
  moved_to n k lt at = leads n ∙ by_move-at count moves (λ v. v.new) (l.at n) (l.at n) k e.ascending lt at

  pub mover : (k : ℕ) → k < count → Mover k
  mover k lt =
      let w = e.moved k lt in
      let i = escaping_in s st.whole l one t count has.0 valid moves tight e w.0 w.1 in
      let v = moves_so s st.whole l one t count has.0 valid moves tight e w.0 i.0 k i.1 lt w.2 in
      record { name = w.0; object = record i.0 { home = (moves k).space }; present = v.0; escapes = w.1; place = moved_to w.0 k lt w.2 }

  fields_moved : (k : ℕ) (lt : k < count) → fields_at d.heap (moves k).new ≡ length (mover k lt).object.fields
  fields_moved k lt = let w = mover k lt in ap (fields_at d.heap) (sym w.place) ∙ fields_now w.name w.object w.present

  pub brought_field : (a : ℕ) → IsBrought d.heap count moves a → (q : FieldLeft (objects_left s st.places t count moves) later.at a) × IsEscaping s t q.name
  brought_field a b =
      let w = mover b.move b.among in
      let fields = fields_moved b.move b.among in
      (record { name = w.name; object = w.object; field = b.field; present = w.present; within = omega (arith, b.within, fields); place = b.place ∙ ap (λ i. i + OBJECT_WORDS + b.field) (sym w.place) }, w.escapes)

  pub field_brought : (a : ℕ) (q : FieldLeft (objects_left s st.places t count moves) later.at a) → IsEscaping s t q.name → IsBrought d.heap count moves a
  field_brought a q esc =
      let k = e.complete q.name esc in
      let at = moved_to q.name k.0 k.1 k.2 in
      let fields : fields_at d.heap (moves k.0).new ≡ length q.object.fields = ap (fields_at d.heap) (sym at) ∙ fields_now q.name q.object q.present in
      record { move = k.0; among = k.1; field = q.field; within = omega (arith, q.within, fields); place = q.place ∙ ap (λ i. i + OBJECT_WORDS + q.field) at }

  -- a field of an object outside the region, as its chains have it, stays
  was_page : (n : Name) (o : Thing) (f a : ℕ) → object_of s n ≡ Some o → f < length o.fields → a ≡ st.places.at n + OBJECT_WORDS + f → page_word m c a ≡ space_index o.home + 1
  was_page n o f a here lt is =
      let place : a ≡ l.at n + (OBJECT_WORDS + f) = omega (arith, is) in
      ap (page_word m c) place ∙ page-of m c (object_of s) l (λ _. 0) n o (OBJECT_WORDS + f) st.stands.heap here (omega (arith, lt))

  pub outside_field : (x : Space) (a : ℕ) → IsRegionOf m x → Contains (outside m c (innermost s.graph t) (chain m c x)) a → (q : FieldLeft (objects_left s st.places t count moves) later.at a) × (object_of s q.name ≡ Some q.object) × (q.object.home ≢ innermost s.graph t)
  outside_field x a r h =
      let w = (outside-has m c region (chain m c x) a).0 h in
      let f = recorded.fields a (inl (x, r, w.0)) in
      let far : f.1.home ≢ region = λ z. w.1 (was_page f.0 f.1 f.2 a f.3 f.4 f.5 ∙ ap (λ (y : Space). space_index y + 1) z) in
      let v = stays_so s st.whole l one t count has.0 valid moves tight e f.0 f.1 f.3 far in
      (record { name = f.0; object = f.1; field = f.2; present = v.0; within = f.4; place = f.5 ∙ ap (λ i. i + OBJECT_WORDS + f.2) (sym (leads f.0 ∙ v.1.leads)) }, f.3, far)

  pub still_outside : (n : Name) (o : Thing) (f a : ℕ) → object_of s n ≡ Some o → f < length o.fields → a ≡ st.places.at n + OBJECT_WORDS + f → o.home ≢ innermost s.graph t → page_word m c a ≢ space_index (innermost s.graph t) + 1
  still_outside n o f a here lt is far z =
      let home : IsValid MAX_DEPTH o.home = are_valid n o (stays_so s st.whole l one t count has.0 valid moves tight e n o here far).0 in
      far (number-own o.home region home valid (omega (arith, z, was_page n o f a here lt is)))

  -- ---- references

  crosses : (x : Space) (a : ℕ) → IsRegionOf m x → (q : FieldLeft (objects_left s st.places t count moves) later.at a) → enters m d x a ≡ true → Crosses (objects_left s st.places t count moves) q.object q.field x
  crosses x a r q en = enters-crossing m d left later (λ _. 0) q.name q.object q.field x lies.heap are_data are_valid (region-valid m x areas r) (λ z. subst (IsRegionOf m) z r) q.present q.within (subst (Enter m d x) q.place (enters-tells m d x a en))

  pub crossing_at : (x : Space) (a : ℕ) → IsRegionOf m x → (q : FieldLeft (objects_left s st.places t count moves) later.at a) → enters m d x a ≡ true → (k : IsCrossingInto (objects_left s st.places t count moves) later.at x a) × (k.from ≡ q.name)
  crossing_at x a r q en =
      let w = crosses x a r q en in
      (record { from = q.name; object = q.object; present = q.present; field = q.field; within = q.within; to = w.to; goal = w.goal; refers = w.refers; reached = w.reached; home = w.home; enters = w.enters; place = q.place }, refl)

  pub enters_at : (x : Space) (a : ℕ) → IsCrossingInto (objects_left s st.places t count moves) later.at x a → enters m d x a ≡ true
  enters_at x a k = enters-since m d x a (subst (λ (y : Space). Enter m d y a) k.home (subst (Enter m d k.goal.home) (sym k.place) (crossing-enters m d left later (λ _. 0) k.from k.to k.object k.goal k.field lies.heap are_valid k.present k.within k.refers k.reached k.enters)))

  -- ---- what the filing of slots wants

  abbrev own_slots : List ℕ
  own_slots = outside m c (innermost s.graph t) (chain m c (innermost s.graph t))

  pub slots_fit : IsRegionOf m (innermost s.graph t) → All (IsSlot m d) (outside m c (innermost s.graph t) (chain m c (innermost s.graph t)))
  slots_fit r = All-from_get_or (IsSlot m d) own_slots 0 (λ i lt. slot_left (get_or own_slots i 0) (outside_field region (get_or own_slots i 0) r (Contains-get_or own_slots i 0 lt)).0)

  pub slots_leave : IsRegionOf m (innermost s.graph t) → All (λ a. enters m d (innermost s.graph t) a ≡ false) (outside m c (innermost s.graph t) (chain m c (innermost s.graph t)))
  slots_leave r = All-from_get_or (λ a. enters m d region a ≡ false) own_slots 0 (λ i lt.
      let a : ℕ = get_or own_slots i 0 in
      enters-none m d region a (no_enter region a r (slot_left a (outside_field region a r (Contains-get_or own_slots i 0 lt)).0) (λ shown ne. ne refl)))

  pub moved_fit : (k : ℕ) → k < count → HasHeader d.heap (moves k).new × ((moves k).new < heap_length m) × All (IsSlot m d) (slots_at d.heap (moves k).new)
  moved_fit k lt =
      let w = mover k lt in
      let fields = fields_moved k lt in
      let end = in-heap m d left later (λ _. 0) w.name w.object lies.heap w.present in (
        (record { fields = length w.object.fields; space = space_index w.object.home }, is_header w.name w.object w.present, ap (λ a. get_or d.heap a 0) (sym w.place) ∙ (lies.heap.held w.name w.object w.present).header),
        omega (arith, end, w.place),
        All-from_get_or (IsSlot m d) (slots_at d.heap (moves k).new) 0 (λ f lf.
            let within : f < fields_at d.heap (moves k).new = omega (arith, lf, length-range_with_len ((moves k).new + OBJECT_WORDS) (fields_at d.heap (moves k).new)) in
            let here : get_or (slots_at d.heap (moves k).new) f 0 ≡ (moves k).new + OBJECT_WORDS + f = get_or-range_with_len ((moves k).new + OBJECT_WORDS) (fields_at d.heap (moves k).new) f 0 within in
            slot_left (get_or (slots_at d.heap (moves k).new) f 0) (brought_field (get_or (slots_at d.heap (moves k).new) f 0) (record { move = k; among = lt; field = f; within = within; place = here })).0),
      )
