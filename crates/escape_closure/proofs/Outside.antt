-- References into the region from outside.
use Rattle.std.proofs.Common.{◌≡◌, ◌≢◌, ℕ, ◌+◌, ◌-◌, ◌/◌, ◌≤◌, ◌<◌, Some, List, [], refl, sym, ap, subst, ◌∙◌, arith, inl, inr, get_or, length, below_more}
use Rattle.escape_closure.specs.declared.raising.Tally.{Tally}
use Rattle.epoch_lattice.specs.declared.TheConstants.{MAX_DEPTH}
use Rattle.object_layout.specs.declared.TheConstants.{OBJECT_WORDS}
use Rattle.std.proofs.Props.{props}
use Rattle.std.proofs.Math.Logic.{∥∥₁_elim}
use Rattle.yak_model.proofs.Chains.{linked-prop}
use Rattle.std.proofs.lemmas.List.{get_or_default}
use Rattle.std.proofs.lemmas.List.Elements.{All-get_or, Contains-get_or}
use Rattle.std.specs.List.{Contains, All, flat_map}
use Rattle.object_layout.specs.declared.names.Name.{Name}
use Rattle.epoch_lattice.specs.declared.Space.{Space}
use Rattle.epoch_lattice.specs.declared.Space.TheVariants.{Control, Region}
use Rattle.epoch_lattice.specs.Lattice.{IsValid, parent_of}
use Rattle.yak_model.specs.declared.datum.Datum.{Datum}
use Rattle.yak_model.specs.declared.datum.Datum.TheVariants.{Null, Object}
use Rattle.yak_model.specs.Spaces.{here}
use Rattle.yak_model.proofs.Names.{same_or_other}
use Rattle.heap_words.specs.declared.map.Areas.{Areas}
use Rattle.heap_words.specs.Map.{heap_length, page_words}
use Rattle.heap_words.specs.Cells.{row}
use Rattle.heap_words.specs.Contents.{Contents, stack_of}
use Rattle.yak_model.specs.State.{Thing, IsDatum}
use Rattle.epoch_lattice.specs.Lattice.{space_index}
use Rattle.yak_model.specs.Placed.{datum_word, size_by, space_word}
use Rattle.remember_sets.specs.Filed.{IsFiled, SetsHold, chain}
use Rattle.yak_model.specs.Recorded.{RecordedAs, IsField, Enters, IsReader}
use Rattle.yak_model.proofs.Placed.{in_page}
use Rattle.heap_walks.proofs.Objects.{in_heap, same_thing, size_is, field_now, lie_apart}
use Rattle.heap_walks.proofs.Stacks.{some_row, slot_word}
use Rattle.heap_walks.proofs.Pages.{table_now}
use Rattle.escape_closure.specs.Words.{settled_word}
use Rattle.escape_closure.specs.Sources.{IsDue, IsReachedIn}
use Rattle.escape_closure.specs.Raising.{Ended, IsRaised, Raising, Rises, IsOwed, IsPaid, IsStackDue, IsStackPaidTo, IsStackPaid, IsSlotPaid, AreSlotsPaid, AreSourcesPaid}
use Rattle.escape_closure.proofs.Fields.{raised_on}

-- a source reaches the object to which it refers
pub due_source : (e : Ended) (n : Name) (x : Space) → IsReachedIn e.laid.state e.thread e.region n x → IsDue e.laid.state e.thread e.region n x
due_source e n x r = record { least = λ z above. above x r; source = x; reached = r }

pub slot_owed : (m : Areas) (e : Ended) (c : Contents) (tally : Tally) (t s word : ℕ) (x : Space) → IsValid MAX_DEPTH x → Raising m e c tally → IsStackDue e (t - 1) x → s < length (get_or e.laid.state.stacks (t - 1) []) → word ≡ get_or (stack_of c t) s 0 → IsOwed e word x
slot_owed m e c tally t s word x valid rz due lt q =
    let st = get_or e.laid.state.stacks (t - 1) [] in
    let row : t - 1 < length e.laid.state.stacks = some_row e.laid.state.stacks (t - 1) s lt in
    record {
      valid = valid;
      datum = get_or st s Null;
      fits = All-get_or (IsDatum e.laid.state.objects) st s Null lt (All-get_or (All (IsDatum e.laid.state.objects)) e.laid.state.stacks (t - 1) [] row rz.among.stands.closed.stacks);
      word_is = q ∙ slot_word m e.laid c t s rz.among;
      due = λ n f here_. due n (row, subst (Contains st) f (Contains-get_or st s Null lt)) here_;
    }

pub slot_more : (e : Ended) (c d : Contents) (t k word : ℕ) (x : Space) → Rises e c d → word ≡ datum_word e.laid.places.at (get_or (get_or e.laid.state.stacks t []) k Null) → IsStackPaidTo e c t x k → IsPaid e d word x → IsStackPaidTo e d t x (k + 1)
slot_more e c d t k word x r q before now =
    below_more _ k (λ p lt n here_ f. raised_on e c d n x r here_ (before p lt n here_ f)) (subst (λ w. IsPaid e d w x) q now)

pub stack_paid : (e : Ended) (c : Contents) (t k : ℕ) (x : Space) → length (get_or e.laid.state.stacks t []) ≤ k → IsStackPaidTo e c t x k → IsStackPaid e c t x
stack_paid e c t k x all to n refers here_ =
    let value : get_or (get_or e.laid.state.stacks t []) refers.0 Null ≡ Object n = get_or_default (get_or e.laid.state.stacks t []) refers.0 Null (Object n) refers.1 ∙ refers.2 in
    to refers.0 (omega (arith, refers.1)) n here_ (ap (datum_word e.laid.places.at) value)

-- a slot of a chain
pub record Slot (e : Ended) (a : ℕ) : Type 0 where
  pub from : Name
  pub object : Thing
  pub field : ℕ
  pub present : e.laid.state.objects from ≡ Some object
  pub within : field < length object.fields
  pub address : a ≡ e.laid.places.at from + OBJECT_WORDS + field

pub slot_at : (m : Areas) (e : Ended) (a : ℕ) → RecordedAs m e.laid.before e.laid.state e.laid.places.at → IsFiled m e.laid.before a → Slot e a
slot_at m e a recorded filed =
    let f : IsField e.laid.places.at e.laid.state a = recorded.fields a (inl filed) in
    record { from = f.0; object = f.1; field = f.2; present = f.3; within = f.4; address = f.5 }

module _ (m : Areas) (e : Ended) (c : Contents) (tally : Tally) (rz : Raising m e c tally) (a : ℕ) (s : Slot e a) where
  pub slot_fits : a < heap_length m
  slot_fits = let b = in_heap m e.laid s.from s.object rz.among.stands s.present in omega (arith, b, s.address, s.within)

  pub slot_page : (a / page_words m < m.pages) × (get_or (row c.table (a / page_words m)) 0 0 ≡ settled_word s.object.home)
  slot_page =
      let at = rz.among.stands.heap.present s.from s.object s.present in
      let w = rz.among.stands.heap.whole s.from at.0 at.1 at.2 in
      let b = in_page (page_words m) (size_by e.laid.state.objects) e.laid.places s.from at.0 at.1 rz.among.stands.heap.tiles at.2 in
      let size = size_is e.laid s.from s.object s.present in
      let page : a / page_words m ≡ at.0 = omega (arith, b.0, b.1, size, s.address, s.within) in
      let same : w.0 ≡ s.object = same_thing e.laid s.from w.0 s.object w.1 s.present in
      (omega (arith, page, at.2.page, rz.among.stands.heap.count), ap (λ p. get_or (row c.table p) 0 0) page ∙ ap (λ (t : List (List ℕ)). space_word t at.0) (table_now m e.laid c rz.among) ∙ w.2 ∙ ap (λ (t : Thing). space_index t.home + 1) same)

  pub slot_value : get_or c.heap a 0 ≡ datum_word e.laid.places.at (get_or s.object.fields s.field Null)
  slot_value = ap (λ i. get_or c.heap i 0) s.address ∙ field_now m e.laid c s.from s.object s.field rz.among s.present s.within

  pub slot_due : (word : ℕ) → s.object.home ≢ e.region → word ≡ get_or c.heap a 0 → IsOwed e word s.object.home
  slot_due word outside q = record {
    valid = rz.homes.valid s.from s.object s.present;
    datum = get_or s.object.fields s.field Null;
    fits = All-get_or (IsDatum e.laid.state.objects) s.object.fields s.field Null s.within (rz.among.stands.closed.fields s.from s.object s.present).0;
    word_is = q ∙ slot_value;
    due = λ n f here_.
        let refers : Contains s.object.fields (Object n) = subst (Contains s.object.fields) f (Contains-get_or s.object.fields s.field Null s.within) in
        due_source e n s.object.home (n, (here_, inl (s.from, s.object, s.present, refl, outside, refers)), here);
  }

  same_slot : (from : Name) (o : Thing) (f : ℕ) → e.laid.state.objects from ≡ Some o → f < length o.fields → a ≡ e.laid.places.at from + OBJECT_WORDS + f → (s.object ≡ o) × (s.field ≡ f)
  same_slot from o f present within at =
      elim (same_or_other s.from from) [
        | inl q ↦ (same_thing e.laid from s.object o (ap e.laid.state.objects (sym q) ∙ s.present) present, let w : e.laid.places.at s.from ≡ e.laid.places.at from = ap e.laid.places.at q in omega (arith, w, s.address, at))
        | inr ne ↦ absurd (elim (lie_apart m e.laid s.from from s.object o rz.among.stands s.present present ne) as (λ _. ⊥) [
          | inl p ↦ omega (arith, p, s.address, at, s.within, within)
          | inr p ↦ omega (arith, p, s.address, at, s.within, within)
        ])
      ]

  pub slot_paid : (d : Contents) (word : ℕ) → word ≡ get_or c.heap a 0 → IsPaid e d word s.object.home → IsSlotPaid e d a
  slot_paid d word q paid from n o f present within value at outside here_ =
      let same = same_slot from o f present within at in
      let found : get_or s.object.fields s.field Null ≡ Object n = ap (λ (t : Thing). get_or t.fields s.field Null) same.0 ∙ ap (λ k. get_or o.fields k Null) same.1 ∙ value in
      subst (IsRaised e d n) (ap (λ (t : Thing). t.home) same.0) (paid n here_ (q ∙ slot_value ∙ ap (datum_word e.laid.places.at) found))

  pub slot_inside : (d : Contents) → s.object.home ≡ e.region → IsSlotPaid e d a
  slot_inside d inside from n o f present within value at outside here_ =
      let same = same_slot from o f present within at in
      absurd (outside (ap (λ (t : Thing). t.home) (sym same.0) ∙ inside))

pub chain_now : (m : Areas) (e : Ended) (c : Contents) (tally : Tally) (x : Space) → Raising m e c tally → chain m c x ≡ chain m e.laid.before x
chain_now m e c tally x rz = ap (λ (y : Contents). chain m y x) rz.among.frame

pub sets_now : (m : Areas) (e : Ended) (c : Contents) (tally : Tally) → Raising m e c tally → SetsHold m c
sets_now m e c tally rz = subst (SetsHold m) (sym rz.among.frame) rz.among.stands.sets

-- Some end rises in words: their chains stand.
abbrev pub IsSome : Areas → Space → Contents → Tally → Type 0
IsSome m x c tally = ∥ ((e : Ended) × (e.region ≡ x) × Raising m e c tally × RecordedAs m e.laid.before e.laid.state e.laid.places.at) ∥₁

pub sets-held : (m : Areas) (x : Space) (c : Contents) (tally : Tally) → IsSome m x c tally → SetsHold m c
sets-held m x c tally some = ∥∥₁_elim some (hlevel (props, linked-prop)) (λ q. sets_now m q.0 c tally q.2)

pub sets-then : (m : Areas) (x : Space) (c d : Contents) (tally more : Tally) → IsSome m x c tally → ((e : Ended) → e.region ≡ x → Raising m e c tally → RecordedAs m e.laid.before e.laid.state e.laid.places.at → Raising m e d more) → SetsHold m d
sets-then m x c d tally more some next = ∥∥₁_elim some (hlevel (props, linked-prop)) (λ q. sets_now m q.0 d more (next q.0 q.1 q.2 q.3))

pub chain-then : (m : Areas) (x : Space) (c d : Contents) (tally more : Tally) → IsSome m x c tally → ((e : Ended) → e.region ≡ x → Raising m e c tally → RecordedAs m e.laid.before e.laid.state e.laid.places.at → Raising m e d more) → chain m d x ≡ chain m c x
chain-then m x c d tally more some next = ∥∥₁_elim some (hlevel props) (λ q. chain_now m q.0 d more x (next q.0 q.1 q.2 q.3) ∙ sym (chain_now m q.0 c tally x q.2))

pub slot_still : (e : Ended) (c d : Contents) (a : ℕ) → Rises e c d → IsSlotPaid e c a → IsSlotPaid e d a
slot_still e c d a r paid from n o f present within value at outside here_ = raised_on e c d n o.home r here_ (paid from n o f present within value at outside here_)

-- Where the slots of the region's chain, the own stack and the readers' stacks are paid, all sources are.
pub sources_paid : (m : Areas) (e : Ended) (c : Contents) (tally : Tally) (u d : ℕ) → Raising m e c tally → RecordedAs m e.laid.before e.laid.state e.laid.places.at → e.region ≡ Region u d → e.thread ≡ u → 1 ≤ u → length e.laid.state.stacks ≡ m.threads → flat_map (λ (b : List ℕ). b) e.laid.before.buffers ≡ []
    → AreSlotsPaid m e c (length (chain m e.laid.before e.region)) → IsStackPaid e c (e.thread - 1) (parent_of e.region) → ((t : ℕ) → 1 ≤ t → t ≤ m.threads → t ≢ u → IsReader e.laid.before.readers t u d → IsStackPaid e c (t - 1) Control) → AreSourcesPaid e c
sources_paid m e c tally u d rz recorded region thread some threads empty entries own readers n x (here_, inl (from, o, present, home, outside, refers)) =
    let value : get_or o.fields refers.0 Null ≡ Object n = get_or_default o.fields refers.0 Null (Object n) refers.1 ∙ refers.2 in
    let enters : Enters o.home here_.0.home = (λ q. cc (here_.2, region), λ q. outside (sym home ∙ sym q ∙ here_.2)) in
    let slot : ℕ = e.laid.places.at from + OBJECT_WORDS + refers.0 in
    let slots : List ℕ = chain m e.laid.before e.region in
    elim (recorded.crossing from n o here_.0 refers.0 present refers.1 value here_.1 enters) [
      | inl filed ↦
          let k : Contains slots slot = subst (λ y. Contains (chain m e.laid.before y) slot) here_.2 filed in
          subst (IsRaised e c n) home (entries k.0 k.1 from n o refers.0 present refers.1 value (get_or_default slots k.0 0 slot k.1 ∙ k.2) (λ q. outside (sym home ∙ q)) here_)
      | inr b ↦ absurd (let none = subst (λ xs. Contains xs slot) empty b in omega (arith, none.1))
    ]
sources_paid m e c tally u d rz recorded region thread some threads empty entries own readers n x (here_, inr (inl (held, is))) = subst (IsRaised e c n) (sym is) (own n held.1 here_)
sources_paid m e c tally u d rz recorded region thread some threads empty entries own readers n x (here_, inr (inr (k, other, held, is))) =
    let same : k + 1 - 1 ≡ k = omega arith in
    let st : List Datum = get_or e.laid.state.stacks k [] in
    let value : get_or (get_or e.laid.state.stacks (k + 1 - 1) []) held.1.0 Null ≡ Object n = ap (λ j. get_or (get_or e.laid.state.stacks j []) held.1.0 Null) same ∙ get_or_default st held.1.0 Null (Object n) held.1.1 ∙ held.1.2 in
    let within : held.1.0 < length (get_or e.laid.state.stacks (k + 1 - 1) []) = subst (λ j. held.1.0 < length (get_or e.laid.state.stacks j [])) (sym same) held.1.1 in
    let apart : k + 1 ≢ u = omega (arith, other, thread, some) in
    let reads : IsReader e.laid.before.readers (k + 1) u d = recorded.read (k + 1) u d held.1.0 n here_.0 (omega arith) (omega (arith, held.0, threads)) within value here_.1 (here_.2 ∙ region) (λ q. apart (sym q)) in
    subst (IsRaised e c n) (sym is) (readers (k + 1) (omega arith) (omega (arith, held.0, threads)) apart reads n (subst (λ j. Contains (get_or e.laid.state.stacks j []) (Object n)) (sym same) held.1) here_)

pub reader_due : (e : Ended) (k : ℕ) → k ≢ e.thread - 1 → IsStackDue e k Control
reader_due e k ne n held here_ = due_source e n Control (n, (here_, inr (inr (k, ne, held, refl))), here)

pub stack_still : (e : Ended) (c d : Contents) (k : ℕ) (x : Space) → Rises e c d → IsStackPaid e c k x → IsStackPaid e d k x
stack_still e c d k x r paid n refers here_ = raised_on e c d n x r here_ (paid n refers here_)
