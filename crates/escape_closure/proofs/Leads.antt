-- What refers to the objects that the plan of an end moves.
use Rattle.std.proofs.Common.{◌≡◌, ◌≢◌, ◌⊎◌, ℕ, ◌+◌, ◌-◌, ◌*◌, ◌/◌, ◌≤◌, ◌<◌, Bool, true, Option, Some, None, is_some, List, [], ◌∷◌, zero, suc, length, map, get_or, refl, sym, ap, subst, ◌∙◌, arith, inl, inr}
use Rattle.std.proofs.lemmas.Bool.{cases_eq}
use Rattle.std.proofs.lemmas.List.{ext_get_or, get_or_default, length-map}
use Rattle.std.proofs.lemmas.List.Elements.{All-get_or, Contains-get_or}
use Rattle.std.specs.List.{All, Contains}
use Rattle.std.specs.Int.{IsBitSet}
use Rattle.std.specs.Int.Bits.{bit_and}
use Rattle.std.specs.Prelude.{◌^◌}
use Rattle.object_layout.specs.declared.names.Name.{Name}
use Rattle.object_layout.specs.declared.TheConstants.{OBJECT_WORDS}
use Rattle.epoch_lattice.specs.declared.Space.{Space}
use Rattle.epoch_lattice.specs.declared.Space.TheVariants.{Control, Region}
use Rattle.epoch_lattice.specs.declared.TheConstants.{MAX_DEPTH}
use Rattle.epoch_lattice.specs.Lattice.{IsValid, space_index}
use Rattle.heap_words.specs.declared.map.Areas.{Areas}
use Rattle.heap_words.specs.Map.{IsAreas, heap_length, page_words}
use Rattle.heap_words.specs.Cells.{row}
use Rattle.heap_words.specs.Contents.{Contents, readers_of}
use Rattle.yak_model.specs.declared.datum.Datum.{Datum}
use Rattle.yak_model.specs.declared.datum.Datum.TheVariants.{Null, Int, Object}
use Rattle.yak_model.specs.Spaces.{SpaceState, innermost}
use Rattle.yak_model.specs.State.{Thing, IsDatum, object_of, view}
use Rattle.yak_model.specs.Placed.{Holds, datum_word, size_by, space_word}
use Rattle.yak_model.specs.Plans.{Move, forward, forwarded, without}
use Rattle.yak_model.specs.Stands.{Stands}
use Rattle.yak_model.specs.Chains.{IsRegionOf}
use Rattle.remember_sets.specs.Filed.{SetsHold, chain}
use Rattle.yak_model.specs.Recorded.{Enters, IsField}
use Rattle.yak_model.proofs.Names.{same_or_other}
use Rattle.yak_model.proofs.Placed.{in_page}
use Rattle.yak_model.proofs.Stacks.{get_or-map_all}
use Rattle.heap_walks.specs.Laid.{Laid}
use Rattle.heap_walks.specs.Reach.{IsIn}
use Rattle.heap_walks.proofs.Objects.{in_heap, kept_word, leads_to, lie_apart, same_address, same_thing, size_is}
use Rattle.heap_walks.proofs.Seen.{home_of_in, seen}
use Rattle.heap_walks.proofs.Stacks.{some_row}
use Rattle.relocation.specs.Moves.{Numbered, corrected_word, move_at, size_at, words_moved}
use Rattle.relocation.proofs.Told.{IsTold, of_told, told_of}
use Rattle.relocation.specs.Fields.{LeadWithin, Lined, MovesCorrected}
use Rattle.relocation.proofs.Corrected.{corrected-datum}
use Rattle.relocation.proofs.Lawful.{by_move-other, kept}
use Rattle.relocation.proofs.Moving.{fields_at-header, fields_at-same}
use Rattle.relocation.proofs.SlidLawful.{kept-false}
use Rattle.relocation.proofs.Slidden.{holds-corrected}
use Rattle.escape_closure.specs.Ends.{DropsRest, PlanReady, References}
use Rattle.escape_closure.specs.Referring.{IsOutside, OutsideCorrected, SlotsReady, StackLeads, corrected_stack, slot_at}
use Rattle.escape_closure.proofs.Reaches.{reached_here}
use Rattle.escape_closure.proofs.Tells.{same_index}
use Rattle.escape_closure.proofs.Written.{none_filed}

some_thing : (x : Option Thing) → is_some x ≡ true → (p : Thing) × (x ≡ Some p)
some_thing None h = cc
some_thing (Some p) h = (p, refl)

-- a number is listed among the first of a list, or is not
listed_or_not : (xs : List ℕ) (a n : ℕ) → ((i : ℕ) × (i < n) × (a ≡ get_or xs i 0)) ⊎ ((i : ℕ) → i < n → a ≢ get_or xs i 0)
listed_or_not xs a zero = inr (λ i lt. absurd (omega (arith, lt)))
listed_or_not xs a (suc n) = elim (cases_eq a (get_or xs n 0)) [
  | inl e ↦ inl (n, (let lt : n < suc n = omega arith in lt), e)
  | inr ne ↦ elim (listed_or_not xs a n) [
    | inl w ↦ inl (w.0, omega (arith, w.1), w.2)
    | inr none ↦ inr (λ i lt. elim (cases_eq i n) [
      | inl e ↦ subst (λ j. a ≢ get_or xs j 0) (sym e) ne
      | inr o ↦ none i (omega (arith, lt, o))
    ])
  ]
]

corrected_map : (f : ℕ → ℕ) (at : Name → ℕ) (st : List Datum) → map (corrected_word f) (map (datum_word at) st) ≡ map (datum_word (λ n. f (at n))) st
corrected_map f at [] = refl
corrected_map f at (d ∷ st) = ap (λ w. w ∷ map (corrected_word f) (map (datum_word at) st)) (corrected-datum f at d) ∙ ap (λ ws. datum_word (λ n. f (at n)) d ∷ ws) (corrected_map f at st)

map_same : (g h : Datum → ℕ) (st : List Datum) → ((i : ℕ) → i < length st → g (get_or st i Null) ≡ h (get_or st i Null)) → map g st ≡ map h st
map_same g h [] same = refl
map_same g h (d ∷ st) same = ap (λ w. w ∷ map g st) (same 0 (omega arith)) ∙ ap (λ ws. h d ∷ ws) (map_same g h st (λ i lt. same (suc i) (omega (arith, lt))))

pub words_same : (was now : List ℕ) (count : ℕ) (moves : ℕ → Move) → ((k : ℕ) → k < count → size_at now (moves k).old ≡ size_at was (moves k).old) → words_moved now count moves ≡ words_moved was count moves
unfolding words_moved
words_same was now zero moves same = refl
words_same was now (suc k) moves same =
    let rest = words_same was now k moves (λ j lt. same j (omega (arith, lt))) in
    let own = same k (omega arith) in
    omega (arith, rest, own)

-- the objects of a plan one after another, in facts that have one proof
pub record LinedAs (m : Areas) (heap : List ℕ) (count : ℕ) (moves : ℕ → Move) : Type 0 where
  pub headers : (k : ℕ) → k < count → IsTold heap (moves k).old
  pub within : (k : ℕ) → k < count → (moves k).old + size_at heap (moves k).old ≤ heap_length m
  pub ordered : (j k : ℕ) → j < k → k < count → (moves j).old + size_at heap (moves j).old ≤ (moves k).old
  pub lead : (k : ℕ) → k < count → LeadWithin m heap ((moves k).old + 3) ((moves k).old + size_at heap (moves k).old)

pub lined_as : (m : Areas) (heap : List ℕ) (count : ℕ) (moves : ℕ → Move) → Lined m heap count moves → LinedAs m heap count moves
lined_as m heap count moves l = record { headers = λ k lt. told_of heap (moves k).old (l.headers k lt); within = l.within; ordered = l.ordered; lead = l.lead }

pub lined_of : (m : Areas) (heap : List ℕ) (count : ℕ) (moves : ℕ → Move) → LinedAs m heap count moves → Lined m heap count moves
lined_of m heap count moves l = record { headers = λ k lt. of_told heap (moves k).old (l.headers k lt); within = l.within; ordered = l.ordered; lead = l.lead }

module _ (m : Areas) (before c : Contents) (s : SpaceState) (stands : Stands m before s) (t count : ℕ) (areas : IsAreas m) (some : 1 ≤ t) (ready : PlanReady m before c s stands t count) where
  abbrev pub laid : Laid
  laid = record { state = view s; places = stands.places; before = before }

  abbrev pub at : Name → ℕ
  at n = stands.places.at n

  abbrev pub moves : ℕ → Move
  moves k = move_at c.scratch k

  abbrev pub f : ℕ → ℕ
  f a = forward count (move_at c.scratch) a

  abbrev pub region : Space
  region = innermost s.graph t

  pub record MovedAt (k : ℕ) : Type 0 where
    pub name : Name
    pub thing : Thing
    pub present : object_of s name ≡ Some thing
    pub home : thing.home ≡ region
    pub place : at name ≡ (moves k).old

  pub moved_at : (k : ℕ) → k < count → MovedAt k
  moved_at k lt =
      let w = ready.moved k lt in
      let here : IsIn (view s) region w.0 = reached_here s stands.whole t some region w.0 w.1.0 w.1.1 in
      record { name = w.0; thing = here.0; present = here.1; home = here.2; place = w.2 }

  -- an object outside the region is not moved
  unmoved : (x : Name) (p : Thing) → object_of s x ≡ Some p → p.home ≢ region → (k : ℕ) → k < count → at x ≢ (moves k).old
  unmoved x p present outside k lt e =
      let w = moved_at k lt in
      let same : x ≡ w.name = same_address m laid x w.name p w.thing stands.stands present w.present (e ∙ sym w.place) in
      let thing : p ≡ w.thing = same_thing laid x p w.thing present (ap (object_of s) same ∙ w.present) in
      outside (ap (λ (o : Thing). o.home) thing ∙ w.home)

  word_stays : (d : Datum) → IsDatum (object_of s) d → ((x : Name) (p : Thing) → d ≡ Object x → object_of s x ≡ Some p → p.home ≢ region) → datum_word at d ≡ datum_word (forwarded count (move_at c.scratch) stands.places.at) d
  word_stays Null fits outside = refl
  word_stays (Int i) fits outside = refl
  word_stays (Object x) fits outside =
      let p = some_thing (object_of s x) fits in
      let stays : f (at x) ≡ at x = by_move-other count (move_at c.scratch) (λ v. v.new) (at x) (at x) (unmoved x p.0 p.1 (outside x p.0 refl p.1)) in
      ap (λ a. 2 * (a + 1)) (sym stays)

  -- a slot of a chain is a field
  slot_field : (x : Space) → IsRegionOf m x → (i : ℕ) → i < length (chain m c x) → IsField stands.places.at (view s) (slot_at m c x i)
  slot_field x own i lt =
      let same : chain m c x ≡ chain m before x = ap (λ (y : Contents). chain m y x) ready.frame in
      ready.recorded.fields (slot_at m c x i) (inl (x, own, subst (λ (slots : List ℕ). Contains slots (slot_at m c x i)) same (Contains-get_or (chain m c x) i 0 lt)))

  -- a field's word leads into the heap
  field_leads : (n : Name) (o : Thing) (j b : ℕ) → object_of s n ≡ Some o → j < length o.fields → datum_word at (get_or o.fields j Null) ≡ 2 * (b + 1) → b + 2 < heap_length m
  field_leads n o j b present lt e =
      let d : Datum = get_or o.fields j Null in
      let fits : IsDatum (object_of s) d = All-get_or (IsDatum (object_of s)) o.fields j Null lt (stands.stands.closed.fields n o present).0 in
      let w = leads_to m laid d b (datum_word at d) stands.stands fits refl e in
      let end = in_heap m laid w.0 w.1 stands.stands w.3 in
      omega (arith, end, w.4)

  pub slots_ready : (x : Space) → IsRegionOf m x → SlotsReady m c x count (move_at c.scratch)
  slots_ready x own = record {
    sets = subst (SetsHold m) (sym ready.frame) stands.stands.sets;
    lead = λ i b lt e.
        let w = slot_field x own i lt in
        let value : get_or c.heap (slot_at m c x i) 0 ≡ datum_word at (get_or w.1.fields w.2 Null) = ap (λ a. get_or c.heap a 0) w.5 ∙ (ready.holds.stands w.0 w.1 w.3).fields w.2 w.4 in
        field_leads w.0 w.1 w.2 b w.3 w.4 (sym value ∙ e);
    beside = λ i k lt lk q.
        let w = slot_field x own i lt in
        let v = moved_at k lk in
        kept_word m laid w.0 w.1 (OBJECT_WORDS + w.2) stands.stands w.3 (omega (arith, w.4)) (omega arith) v.name v.thing v.present (omega (arith, q, w.5, v.place));
  }

  stack_is : (k : ℕ) → row c.stacks k ≡ map (datum_word stands.places.at) (get_or (view s).stacks k [])
  stack_is k = ap (λ (x : Contents). row x.stacks k) ready.frame ∙ ap (λ (ss : List (List ℕ)). get_or ss k []) stands.stands.stacks ∙ get_or-map_all (map (datum_word stands.places.at)) (view s).stacks k []

  stack_fits : (k i : ℕ) → i < length (get_or (view s).stacks k []) → IsDatum (object_of s) (get_or (get_or (view s).stacks k []) i Null)
  stack_fits k i lt =
      let within : k < length (view s).stacks = some_row (view s).stacks k i lt in
      All-get_or (IsDatum (object_of s)) (get_or (view s).stacks k []) i Null lt (All-get_or (All (IsDatum (object_of s))) (view s).stacks k [] within stands.stands.closed.stacks)

  pub stack_leads : (k : ℕ) → StackLeads m c k
  stack_leads k i b lt e =
      let st : List Datum = get_or (view s).stacks k [] in
      let long : length (row c.stacks k) ≡ length st = ap (λ (ws : List ℕ). length ws) (stack_is k) ∙ simp length-map in
      let word : get_or (row c.stacks k) i 0 ≡ datum_word at (get_or st i Null) = ap (λ (ws : List ℕ). get_or ws i 0) (stack_is k) ∙ get_or-map_all (datum_word stands.places.at) st i Null in
      let w = leads_to m laid (get_or st i Null) b (datum_word at (get_or st i Null)) stands.stands (stack_fits k i (omega (arith, lt, long))) refl (sym word ∙ e) in
      let end = in_heap m laid w.0 w.1 stands.stands w.3 in
      omega (arith, end, w.4)

  -- the page of an object's word is of the object's space
  page_word : (n : Name) (o : Thing) (a : ℕ) → object_of s n ≡ Some o → at n ≤ a → a < at n + (length o.fields + OBJECT_WORDS) → space_word c.table (a / page_words m) ≡ space_index o.home + 1
  page_word n o a present low high =
      let p = stands.stands.heap.present n o present in
      let w = stands.stands.heap.whole n p.0 p.1 p.2 in
      let b = in_page (page_words m) (size_by (object_of s)) stands.places n p.0 p.1 stands.stands.heap.tiles p.2 in
      let size = size_is laid n o present in
      let page : a / page_words m ≡ p.0 = omega (arith, b.0, b.1, size, low, high) in
      let same : w.0 ≡ o = same_thing laid n w.0 o w.1 present in
      let word : space_word before.table p.0 ≡ space_index o.home + 1 = w.2 ∙ ap (λ (x : Thing). space_index x.home + 1) same in
      ap (space_word c.table) page ∙ ready.kept p.0 (omega (arith, p.2.page, stands.stands.heap.count)) (λ z. omega (arith, z, word)) ∙ word

  home_valid : (n : Name) (o : Thing) → object_of s n ≡ Some o → IsValid MAX_DEPTH o.home
  home_valid n o present = subst (λ k. IsValid k o.home) (ap (λ l. l.depth) stands.whole.limits) (stands.whole.homes n o.home (seen s n o present).home_is)

  -- the words of a moved object
  pub size_now : (k : ℕ) → (lt : k < count) → size_at c.heap (moves k).old ≡ length (moved_at k lt).thing.fields + OBJECT_WORDS
  size_now k lt =
      let w = moved_at k lt in
      let st = ready.holds.stands w.name w.thing w.present in
      ap (size_at c.heap) (sym w.place) ∙ ap (λ i. i + 3) (fields_at-header c.heap (at w.name) (record { fields = length w.thing.fields; space = space_index w.thing.home }) (ready.holds.limits w.name w.thing w.present) st.header)

  -- after what leads into the region from outside is corrected
  module _ (mid : Contents) (depth : ℕ) (region_at : region ≡ Region t depth) (valid : IsValid MAX_DEPTH (Region t depth)) (own : IsRegionOf m (Region t depth)) (out : OutsideCorrected m (forward count (move_at c.scratch)) c mid t depth) where
    inside_word : (n : Name) (o : Thing) (a : ℕ) → object_of s n ≡ Some o → o.home ≡ region → at n ≤ a → a < at n + (length o.fields + OBJECT_WORDS) → get_or mid.heap a 0 ≡ get_or c.heap a 0
    inside_word n o a present home low high =
        let word = page_word n o a present low high ∙ ap (λ x. space_index x + 1) (home ∙ region_at) in
        out.fields a (λ i lt outside q. outside (ap (λ b. space_word c.table (b / page_words m)) (sym q) ∙ word))

    moved_word : (k a : ℕ) → (lt : k < count) → (moves k).old ≤ a → a < (moves k).old + (length (moved_at k lt).thing.fields + OBJECT_WORDS) → get_or mid.heap a 0 ≡ get_or c.heap a 0
    moved_word k a lt low high = let w = moved_at k lt in inside_word w.name w.thing a w.present w.home (omega (arith, w.place, low)) (omega (arith, w.place, high))

    size_mid : (k : ℕ) → (lt : k < count) → size_at mid.heap (moves k).old ≡ size_at c.heap (moves k).old
    size_mid k lt = ap (λ n. n + 3) (fields_at-same c.heap mid.heap (moves k).old (moved_word k (moves k).old lt (omega arith) (omega arith)))

    pub words_mid : words_moved mid.heap count (move_at c.scratch) ≡ words_moved c.heap count (move_at c.scratch)
    words_mid = words_same c.heap mid.heap count (move_at c.scratch) size_mid

    pub lined : Lined m mid.heap count (move_at c.scratch)
    lined = record {
      headers = λ k lt.
          let w = moved_at k lt in
          let st = ready.holds.stands w.name w.thing w.present in
          (record { fields = length w.thing.fields; space = space_index w.thing.home }, ready.holds.limits w.name w.thing w.present, moved_word k (moves k).old lt (omega arith) (omega arith) ∙ ap (λ a. get_or c.heap a 0) (sym w.place) ∙ st.header);
      within = λ k lt.
          let w = moved_at k lt in
          let end = in_heap m laid w.name w.thing stands.stands w.present in
          omega (arith, end, w.place, size_mid k lt, size_now k lt);
      ordered = λ j k less lt.
          let lj : j < count = omega (arith, less, lt) in
          let w = moved_at j lj in
          let v = moved_at k lt in
          let up = ready.numbered.ascending j k less lt in
          let ne : w.name ≢ v.name = λ q. let same : at w.name ≡ at v.name = ap stands.places.at q in omega (arith, same, w.place, v.place, up) in
          elim (lie_apart m laid w.name v.name w.thing v.thing stands.stands w.present v.present ne) [
            | inl a ↦ omega (arith, a, w.place, v.place, size_mid j lj, size_now j lj)
            | inr a ↦ absurd (omega (arith, a, w.place, v.place, up))
          ];
      lead = λ k lt i b low high e.
          let w = moved_at k lt in
          let j : ℕ = i - (at w.name + 3) in
          let within : j < length w.thing.fields = omega (arith, low, high, w.place, size_mid k lt, size_now k lt) in
          let here : at w.name + OBJECT_WORDS + j ≡ i = omega (arith, low, w.place) in
          let value : get_or c.heap i 0 ≡ datum_word at (get_or w.thing.fields j Null) = ap (λ a. get_or c.heap a 0) (sym here) ∙ (ready.holds.stands w.name w.thing w.present).fields j within in
          field_leads w.name w.thing j b w.present within (sym value ∙ sym (moved_word k i lt (omega (arith, low)) (omega (arith, high, size_mid k lt, size_now k lt))) ∙ e);
    }

    -- after the fields of the moved objects are corrected too
    module _ (d : Contents) (last : MovesCorrected (forward count (move_at c.scratch)) mid.heap d.heap count (move_at c.scratch)) (only : d ≡ record mid { heap = d.heap }) (numbered : Numbered m d.heap count (move_at c.scratch)) where
      far : (n : Name) (o : Thing) (a k : ℕ) → object_of s n ≡ Some o → at n ≤ a → a < at n + (length o.fields + OBJECT_WORDS) → k < count → at n ≢ (moves k).old → (a < (moves k).old + 3) ⊎ ((moves k).old + size_at mid.heap (moves k).old ≤ a)
      far n o a k present low high lt other =
          let w = moved_at k lt in
          let ne : n ≢ w.name = λ q. other (ap stands.places.at q ∙ w.place) in
          elim (lie_apart m laid n w.name o w.thing stands.stands present w.present ne) [
            | inl b ↦ inl (omega (arith, b, high, w.place))
            | inr b ↦ inr (omega (arith, b, low, w.place, size_mid k lt, size_now k lt))
          ]

      -- the first words of an object are no slots
      no_slot : (n : Name) (o : Thing) (j i : ℕ) → object_of s n ≡ Some o → j < 3 → i < length (chain m c (Region t depth)) → at n + j ≢ slot_at m c (Region t depth) i
      no_slot n o j i present three lt q =
          let w = slot_field (Region t depth) own i lt in
          elim (same_or_other n w.0) [
            | inl e ↦ let same : at n ≡ at w.0 = ap stands.places.at e in omega (arith, same, q, w.5, three)
            | inr ne ↦ elim (lie_apart m laid n w.0 o w.1 stands.stands present w.3 ne) as (λ _. ⊥) [
              | inl b ↦ omega (arith, b, q, w.5, three)
              | inr b ↦ omega (arith, b, q, w.5, w.4)
            ]
          ]

      head_word : (n : Name) (o : Thing) (j : ℕ) → object_of s n ≡ Some o → j < 3 → get_or d.heap (at n + j) 0 ≡ get_or c.heap (at n + j) 0
      head_word n o j present three =
          last.others (at n + j) (λ k lk. elim (cases_eq (at n) (moves k).old) [
            | inl e ↦ inl (omega (arith, e, three))
            | inr ne ↦ far n o (at n + j) k present (omega arith) (omega (arith, three)) lk ne
          ]) ∙ out.fields (at n + j) (λ i lt _ q. no_slot n o j i present three lt q)

      -- a field from outside that is not in the region's chain leads to no moved object
      unrecorded : (n : Name) (o : Thing) (i : ℕ) → object_of s n ≡ Some o → o.home ≢ region → i < length o.fields → ((j : ℕ) → j < length (chain m c (Region t depth)) → at n + OBJECT_WORDS + i ≢ slot_at m c (Region t depth) j) → (x : Name) (p : Thing) → get_or o.fields i Null ≡ Object x → object_of s x ≡ Some p → p.home ≢ region
      unrecorded n o i present outside lt none x p is there home =
          let enters : Enters o.home p.home = (λ q. let w : Control ≡ Region t depth = sym q ∙ home ∙ region_at in cc, λ q. outside (sym q ∙ home)) in
          let slot : ℕ = at n + OBJECT_WORDS + i in
          elim (ready.recorded.crossing n x o p i present lt is there enters) as (λ _. ⊥) [
            | inl h ↦
                let into : Contains (chain m before (Region t depth)) slot = subst (λ (y : Space). Contains (chain m before y) slot) (home ∙ region_at) h in
                let k : Contains (chain m c (Region t depth)) slot = subst (λ (y : Contents). Contains (chain m y (Region t depth)) slot) (sym ready.frame) into in
                none k.0 k.1 (sym (get_or_default (chain m c (Region t depth)) k.0 0 slot k.1 ∙ k.2))
            | inr b ↦ let none_ = subst (λ xs. Contains xs slot) (none_filed before.buffers ready.filed) b in omega (arith, none_.1)
          ]

      outside_field : (n : Name) (o : Thing) (i : ℕ) → object_of s n ≡ Some o → o.home ≢ region → i < length o.fields → get_or d.heap (at n + OBJECT_WORDS + i) 0 ≡ corrected_word (forward count (move_at c.scratch)) (get_or c.heap (at n + OBJECT_WORDS + i) 0)
      outside_field n o i present outside lt =
          let a : ℕ = at n + OBJECT_WORDS + i in
          let still : get_or d.heap a 0 ≡ get_or mid.heap a 0 = last.others a (λ k lk. far n o a k present (omega arith) (omega (arith, lt)) lk (unmoved n o present outside k lk)) in
          still ∙ elim (listed_or_not (chain m c (Region t depth)) a (length (chain m c (Region t depth)))) [
            | inl w ↦
                let beside : IsOutside m c (Region t depth) (slot_at m c (Region t depth) w.0) = λ q.
                let own : space_index o.home + 1 ≡ space_index (Region t depth) + 1 = sym (page_word n o a present (omega arith) (omega (arith, lt))) ∙ ap (λ b. space_word c.table (b / page_words m)) w.2 ∙ q in
                outside (same_index o.home (Region t depth) (home_valid n o present) valid (omega (arith, own)) ∙ sym region_at) in
                ap (λ b. get_or mid.heap b 0) w.2 ∙ out.slots w.0 w.1 beside ∙ ap (λ b. corrected_word (forward count (move_at c.scratch)) (get_or c.heap b 0)) (sym w.2)
            | inr none ↦
                let v : Datum = get_or o.fields i Null in
                let value : get_or c.heap a 0 ≡ datum_word stands.places.at v = (ready.holds.stands n o present).fields i lt in
                let fits : IsDatum (object_of s) v = All-get_or (IsDatum (object_of s)) o.fields i Null lt (stands.stands.closed.fields n o present).0 in
                let stays = word_stays v fits (unrecorded n o i present outside lt none) in
                out.fields a (λ j lj _ q. none j lj q) ∙ value ∙ stays ∙ sym (corrected-datum (forward count (move_at c.scratch)) stands.places.at v) ∙ ap (corrected_word (forward count (move_at c.scratch))) (sym value)
          ]

      field_word : (dropped : Name → Bool) → DropsRest s t dropped → (n : Name) (o : Thing) → (without (view s) dropped).objects n ≡ Some o → (i : ℕ) → i < length o.fields → get_or d.heap (at n + OBJECT_WORDS + i) 0 ≡ corrected_word (forward count (move_at c.scratch)) (get_or c.heap (at n + OBJECT_WORDS + i) 0)
      field_word dropped rest n o e i lt =
          let present : object_of s n ≡ Some o = kept (view s) dropped n o e in
          elim (cases_eq (space_index o.home) (space_index (Region t depth))) [
            | inr ne ↦ outside_field n o i present (λ q. ne (ap space_index (q ∙ region_at))) lt
            | inl same ↦
                let home : o.home ≡ region = same_index o.home (Region t depth) (home_valid n o present) valid same ∙ sym region_at in
                let stays = kept-false (view s) dropped n o (dropped n) refl e in
                let k = ready.complete n (rest.kept n stays (home_of_in s stands.whole n region (o, present, home))) in
                let w = moved_at k.0 k.1 in
                let name : n ≡ w.name = same_address m laid n w.name o w.thing stands.stands present w.present (k.2 ∙ sym w.place) in
                let thing : o ≡ w.thing = same_thing laid n o w.thing present (ap (object_of s) name ∙ w.present) in
                let long : length o.fields ≡ length w.thing.fields = ap (λ (x : Thing). length x.fields) thing in
                last.fields k.0 (at n + OBJECT_WORDS + i) k.1 (omega (arith, k.2)) (omega (arith, k.2, lt, long, size_mid k.0 k.1, size_now k.0 k.1)) ∙ ap (corrected_word (forward count (move_at c.scratch))) (inside_word n o (at n + OBJECT_WORDS + i) present home (omega arith) (omega (arith, lt)))
          ]

      all_held : (dropped : Name → Bool) → DropsRest s t dropped → Holds m d.heap stands.places.at (forwarded count (move_at c.scratch) stands.places.at) (λ n. get_or c.heap (stands.places.at n + 2) 0) (without (view s) dropped).objects
      all_held dropped rest = holds-corrected m c.heap d.heap (forward count (move_at c.scratch)) stands.places.at (λ n. get_or c.heap (stands.places.at n + 2) 0) (without (view s) dropped).objects
          (record {
            within = λ n o e. ready.holds.within n o (kept (view s) dropped n o e);
            limits = λ n o e. ready.holds.limits n o (kept (view s) dropped n o e);
            stands = λ n o e. ready.holds.stands n o (kept (view s) dropped n o e);
          })
          (λ n o e j three. head_word n o j (kept (view s) dropped n o e) three)
          (field_word dropped rest)

      -- a stack that is not read leads to no moved object
      unread : (k : ℕ) → k < m.threads → k + 1 ≢ t → (IsBitSet (readers_of c t depth) k → ⊥) → (i : ℕ) → i < length (get_or (view s).stacks k []) → (x : Name) (p : Thing) → get_or (get_or (view s).stacks k []) i Null ≡ Object x → object_of s x ≡ Some p → p.home ≢ region
      unread k lk other none i lt x p is there home =
          let same : k + 1 - 1 ≡ k = omega arith in
          let reads = ready.recorded.read (k + 1) t depth i x p (omega arith) (omega (arith, lk)) (subst (λ j. i < length (get_or (view s).stacks j [])) (sym same) lt) (ap (λ j. get_or (get_or (view s).stacks j []) i Null) same ∙ is) there (home ∙ region_at) (λ q. other (sym q)) in
          none (subst (λ j. IsBitSet (readers_of c t depth) j) same (subst (λ (y : Contents). IsBitSet (readers_of y t depth) (k + 1 - 1)) (sym ready.frame) reads))

      stack_row : (k : ℕ) → k < m.threads → row d.stacks k ≡ map (datum_word (forwarded count (move_at c.scratch) stands.places.at)) (get_or (view s).stacks k [])
      stack_row k lk =
          let st : List Datum = get_or (view s).stacks k [] in
          let first : row d.stacks k ≡ row mid.stacks k = ap (λ (x : Contents). row x.stacks k) only in
          let led : corrected_stack (forward count (move_at c.scratch)) (row c.stacks k) ≡ map (datum_word (forwarded count (move_at c.scratch) stands.places.at)) st = ap (corrected_stack (forward count (move_at c.scratch))) (stack_is k) ∙ corrected_map (forward count (move_at c.scratch)) stands.places.at st in
          first ∙ elim (cases_eq (k + 1) t) [
            | inl e ↦
                let here : k ≡ t - 1 = omega (arith, e) in
                ap (row mid.stacks) here ∙ out.own ∙ ap (λ j. corrected_stack (forward count (move_at c.scratch)) (row c.stacks j)) (sym here) ∙ led
            | inr ne ↦ elim (cases_eq (bit_and (readers_of c t depth) (2 ^ k)) 0) [
              | inr is ↦ out.read k lk ne is ∙ led
              | inl zero_ ↦
                  let none : IsBitSet (readers_of c t depth) k → ⊥ = λ is. is zero_ in
                  out.others k ne (λ _ is. none is) ∙ stack_is k ∙ map_same (datum_word stands.places.at) (datum_word (forwarded count (move_at c.scratch) stands.places.at)) st (λ i lt. word_stays (get_or st i Null) (stack_fits k i lt) (unread k lk ne none i lt))
            ]
          ]

      pub references : length c.stacks ≡ m.threads → length d.heap ≡ length c.heap → References m c d s stands.places t count
      references many long =
          let rows : length d.stacks ≡ m.threads = ap (λ (x : Contents). length x.stacks) only ∙ out.rows ∙ many in
          let shown : length (view s).stacks ≡ m.threads = let q : length c.stacks ≡ length (view s).stacks = ap (λ (x : Contents). length x.stacks) ready.frame ∙ ap (λ (ss : List (List ℕ)). length ss) stands.stands.stacks ∙ length-map (view s).stacks (map (datum_word stands.places.at)) in sym q ∙ many in
          let g : List Datum → List ℕ = map (datum_word (forwarded count (move_at c.scratch) stands.places.at)) in
          record {
            stacks = ext_get_or [] d.stacks (map g (view s).stacks) (rows ∙ sym shown ∙ sym (length-map (view s).stacks g)) (λ k lt. stack_row k (omega (arith, lt, rows)) ∙ sym (get_or-map_all g (view s).stacks k []));
            holds = all_held;
            numbered = numbered;
            size = long;
            frame = only ∙ ap (λ (x : Contents). record x { heap = d.heap }) out.frame ∙ ap (λ (ss : List (List ℕ)). record c { stacks = ss; heap = d.heap }) (sym (ap (λ (x : Contents). x.stacks) only));
          }
