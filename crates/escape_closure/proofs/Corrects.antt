-- Stacks and the slots of a chain, corrected one after another.
use Rattle.std.proofs.Common.{◌≡◌, ◌≢◌, ℕ, ◌+◌, ◌-◌, ◌/◌, ◌≤◌, ◌<◌, List, [], length, get_or, set, refl, sym, ap, subst, ◌∙◌, arith, inl, inr, length-set, get_or-set_same, get_or-set_other}
use Rattle.std.proofs.lemmas.Bool.{cases_eq}
use Rattle.std.proofs.lemmas.Nat.{and_mask, bit_set_by_shift}
use Rattle.std.specs.Int.{IsBitSet}
use Rattle.std.specs.Int.Bits.{bit_and}
use Rattle.std.specs.Prelude.{◌^◌}
use Rattle.heap_words.specs.declared.map.Areas.{Areas}
use Rattle.heap_words.specs.Map.{heap_length}
use Rattle.heap_words.specs.Cells.{row}
use Rattle.heap_words.specs.Contents.{Contents, readers_of, stack_of, with_heap, with_stack}
use Rattle.epoch_lattice.specs.declared.Space.{Space}
use Rattle.epoch_lattice.specs.declared.Space.TheVariants.{Region}
use Rattle.epoch_lattice.specs.Lattice.{space_index}
use Rattle.yak_model.specs.Plans.{Move}
use Rattle.yak_model.specs.Chains.{IsRegionOf}
use Rattle.remember_sets.specs.Filed.{chain, page_word}
use Rattle.relocation.specs.Moves.{Numbered, corrected_word}
use Rattle.escape_closure.specs.Referring.{IsOutside, OutsideCorrected, ReadersCorrected, SlotsCorrected, SlotsReady, StackLeads, corrected_stack, slot_at}

-- a thread's bit, as the code tests it
pub bit_is : (readers k : ℕ) → bit_and (readers / 2 ^ k) 1 ≢ 0 → IsBitSet readers k
bit_is readers k some = let mask = and_mask (readers / 2 ^ k) 1 in (bit_set_by_shift readers k).0 (omega (arith, mask, some))

pub bit_not : (readers k : ℕ) → bit_and (readers / 2 ^ k) 1 ≡ 0 → IsBitSet readers k → ⊥
bit_not readers k none set = let one = (bit_set_by_shift readers k).1 set in omega (arith, one, none)

pub readers_none : (f : ℕ → ℕ) (c : Contents) (owner readers low high : ℕ) → ((k : ℕ) → low ≤ k → k < high → k + 1 ≢ owner → IsBitSet readers k → ⊥) → ReadersCorrected f c c owner readers low high
readers_none f c owner readers low high none = record {
  frame = refl;
  size = refl;
  read = λ k le lt ne is. absurd (none k le lt ne is);
  others = λ k h. refl;
}

pub reader_one : (f : ℕ → ℕ) (c d : Contents) (owner readers reader : ℕ) → 1 ≤ reader → reader - 1 < length c.stacks → d ≡ with_stack c reader (corrected_stack f (stack_of c reader)) → reader ≢ owner → IsBitSet readers (reader - 1) → ReadersCorrected f c d owner readers (reader - 1) reader
reader_one f c d owner readers reader some within made other is =
    let stacks : d.stacks ≡ set c.stacks (reader - 1) (corrected_stack f (stack_of c reader)) = ap (λ (x : Contents). x.stacks) made in
    record {
      frame = made ∙ ap (λ (ss : List (List ℕ)). record c { stacks = ss }) (sym stacks);
      size = ap (λ (ss : List (List ℕ)). length ss) stacks ∙ length-set c.stacks (reader - 1) (corrected_stack f (stack_of c reader));
      read = λ k le lt ne set_.
          let here : k ≡ reader - 1 = omega (arith, le, lt) in
          ap (λ j. row d.stacks j) here ∙ ap (λ (ss : List (List ℕ)). row ss (reader - 1)) stacks ∙ get_or-set_same c.stacks (reader - 1) (corrected_stack f (stack_of c reader)) [] within ∙ ap (λ j. corrected_stack f (row c.stacks j)) (sym here);
      others = λ k h.
          let apart : k ≢ reader - 1 = λ here.
          let up : k + 1 ≡ reader = omega (arith, here, some) in
          h (omega (arith, here)) (omega (arith, up)) (λ q. other (sym up ∙ q)) (subst (IsBitSet readers) (sym here) is) in
          ap (λ (ss : List (List ℕ)). row ss k) stacks ∙ get_or-set_other c.stacks (reader - 1) k (corrected_stack f (stack_of c reader)) [] apart;
    }

pub readers_then : (f : ℕ → ℕ) (c mid d : Contents) (owner readers t : ℕ) → ReadersCorrected f c mid owner readers 0 t → ReadersCorrected f mid d owner readers t (t + 1) → ReadersCorrected f c d owner readers 0 (t + 1)
readers_then f c mid d owner readers t a b = record {
  frame = b.frame ∙ ap (λ (x : Contents). record x { stacks = d.stacks }) a.frame;
  size = b.size ∙ a.size;
  read = λ k le lt ne is. elim (cases_eq k t) [
    | inl e ↦ b.read k (omega (arith, e)) lt ne is ∙ ap (corrected_stack f) (a.others k (λ _ below _ _. omega (arith, below, e)))
    | inr o ↦ b.others k (λ from _ _ _. omega (arith, from, lt, o)) ∙ a.read k le (omega (arith, lt, o)) ne is
  ];
  others = λ k h. b.others k (λ from below ne is. h (omega arith) below ne is) ∙ a.others k (λ from below ne is. h from (omega (arith, below)) ne is);
}

-- the stacks behind are as they were
pub leads_still : (m : Areas) (f : ℕ → ℕ) (c mid : Contents) (owner readers t : ℕ) → ReadersCorrected f c mid owner readers 0 t → StackLeads m c t → StackLeads m mid t
leads_still m f c mid owner readers t a leads =
    let same : row mid.stacks t ≡ row c.stacks t = a.others t (λ _ below _ _. omega (arith, below)) in
    λ i b lt e. leads i b (omega (arith, lt, ap (λ (st : List ℕ). length st) same)) (ap (λ (st : List ℕ). get_or st i 0) (sym same) ∙ e)

pub slots_none : (m : Areas) (f : ℕ → ℕ) (c : Contents) (region : Space) → SlotsCorrected m f c c region 0
slots_none m f c region = record {
  frame = refl;
  size = refl;
  slots = λ i lt out. absurd (omega (arith, lt));
  others = λ a h. refl;
}

-- one slot more
module _ (m : Areas) (f : ℕ → ℕ) (c mid : Contents) (region : Space) (i count : ℕ) (moves : ℕ → Move) (has : IsRegionOf m region) (ready : SlotsReady m c region count moves) (long : length c.heap ≡ heap_length m) (lt : i < length (chain m c region)) (a : SlotsCorrected m f c mid region i) where
  -- slots of the chain are apart
  other_slot : (j : ℕ) → j < i → slot_at m c region j ≢ slot_at m c region i
  other_slot j lj = ready.sets.once region has j i 0 lj lt

  pub word_same : get_or mid.heap (slot_at m c region i) 0 ≡ get_or c.heap (slot_at m c region i) 0
  word_same = a.others (slot_at m c region i) (λ j lj out q. other_slot j lj (sym q))

  pub outside_same : (b : ℕ) → IsOutside m mid region b → IsOutside m c region b
  outside_same b out = subst (λ (x : Contents). IsOutside m x region b) a.frame out

  pub outside_now : (b : ℕ) → IsOutside m c region b → IsOutside m mid region b
  outside_now b out = subst (λ (x : Contents). IsOutside m x region b) (sym a.frame) out

  pub slots_skip : (IsOutside m c region (slot_at m c region i) → ⊥) → SlotsCorrected m f c mid region (i + 1)
  slots_skip inside = record {
    frame = a.frame;
    size = a.size;
    slots = λ j lj out. elim (cases_eq j i) [
      | inl e ↦ absurd (inside (subst (λ k. IsOutside m c region (slot_at m c region k)) e out))
      | inr o ↦ a.slots j (omega (arith, lj, o)) out
    ];
    others = λ b h. a.others b (λ j lj out. h j (omega (arith, lj)) out);
  }

  pub slots_more : (d : Contents) → d ≡ with_heap mid (slot_at m c region i) (corrected_word f (get_or mid.heap (slot_at m c region i) 0)) → IsOutside m c region (slot_at m c region i) → SlotsCorrected m f c d region (i + 1)
  slots_more d made out =
      let x : ℕ = slot_at m c region i in
      let v : ℕ = corrected_word f (get_or mid.heap x 0) in
      let heap : d.heap ≡ set mid.heap x v = ap (λ (y : Contents). y.heap) made in
      let in_heap : x < heap_length m = ready.sets.within region has i 0 lt in
      let within : x < length mid.heap = omega (arith, in_heap, long, a.size) in
      record {
        frame = made ∙ ap (λ (hs : List ℕ). record mid { heap = hs }) (sym heap) ∙ ap (λ (y : Contents). record y { heap = d.heap }) a.frame;
        size = ap (λ (hs : List ℕ). length hs) heap ∙ length-set mid.heap x v ∙ a.size;
        slots = λ j lj outside. elim (cases_eq j i) [
          | inl e ↦
              let same : slot_at m c region j ≡ x = ap (slot_at m c region) e in
              ap (λ k. get_or d.heap k 0) same ∙ ap (λ (hs : List ℕ). get_or hs x 0) heap ∙ get_or-set_same mid.heap x v 0 within ∙ ap (corrected_word f) word_same ∙ ap (λ k. corrected_word f (get_or c.heap k 0)) (sym same)
          | inr o ↦
              let less : j < i = omega (arith, lj, o) in
              ap (λ (hs : List ℕ). get_or hs (slot_at m c region j) 0) heap ∙ get_or-set_other mid.heap x (slot_at m c region j) v 0 (other_slot j less) ∙ a.slots j less outside
        ];
        others = λ b h. ap (λ (hs : List ℕ). get_or hs b 0) heap ∙ get_or-set_other mid.heap x b v 0 (h i (omega arith) out) ∙ a.others b (λ j lj o. h j (omega (arith, lj)) o);
      }

  -- as the code corrects it
  pub slot_done : (d : Contents) (h : ℕ → ℕ) (b : ℕ) → h ≡ f → b ≡ slot_at m c region i → (IsOutside m mid region b → d ≡ with_heap mid b (corrected_word h (get_or mid.heap b 0))) → ((IsOutside m mid region b → ⊥) → d ≡ mid) → SlotsCorrected m f c d region (i + 1)
  slot_done d h b same at out ins = elim (cases_eq (page_word m mid b) (space_index region + 1)) [
    | inl own ↦
        let kept : d ≡ mid = ins (λ o. o own) in
        subst (λ (x : Contents). SlotsCorrected m f c x region (i + 1)) (sym kept) (slots_skip (λ o. outside_now b (subst (IsOutside m c region) (sym at) o) own))
    | inr ne ↦
        let made : d ≡ with_heap mid (slot_at m c region i) (corrected_word f (get_or mid.heap (slot_at m c region i) 0)) = out ne ∙ ap (λ (k : ℕ → ℕ). with_heap mid b (corrected_word k (get_or mid.heap b 0))) same ∙ ap (λ k. with_heap mid k (corrected_word f (get_or mid.heap k 0))) at in
        slots_more d made (subst (IsOutside m c region) at (outside_same b ne))
  ]

-- the plan stands while slots are corrected
pub numbered_outside : (m : Areas) (f : ℕ → ℕ) (c d : Contents) (region : Space) (walked count : ℕ) (moves : ℕ → Move) → SlotsReady m c region count moves → walked ≤ length (chain m c region) → SlotsCorrected m f c d region walked → Numbered m c.heap count moves → Numbered m d.heap count moves
numbered_outside m f c d region walked count moves ready le a h = record {
  room = h.room;
  ascending = h.ascending;
  within = h.within;
  marks = λ k lt. a.others ((moves k).old + 2) (λ i li out. ready.beside i k (omega (arith, li, le)) lt) ∙ h.marks k lt;
}

-- the own stack, the readers' stacks and the slots of the region's chain
pub outside_done : (m : Areas) (f : ℕ → ℕ) (c own mid d : Contents) (thread depth readers : ℕ) → 1 ≤ thread → thread - 1 < length c.stacks → own ≡ with_stack c thread (corrected_stack f (stack_of c thread)) → readers ≡ readers_of c thread depth → ReadersCorrected f own mid thread readers 0 m.threads → SlotsCorrected m f mid d (Region thread depth) (length (chain m mid (Region thread depth))) → OutsideCorrected m f c d thread depth
outside_done m f c own mid d thread depth readers some within made word r slots =
    let st : List ℕ = corrected_stack f (stack_of c thread) in
    let rows : own.stacks ≡ set c.stacks (thread - 1) st = ap (λ (x : Contents). x.stacks) made in
    let only : mid ≡ record c { stacks = mid.stacks } = r.frame ∙ ap (λ (x : Contents). record x { stacks = mid.stacks }) made in
    let k : SlotsCorrected m f (record c { stacks = mid.stacks }) d (Region thread depth) (length (chain m c (Region thread depth))) = subst (λ (x : Contents). SlotsCorrected m f x d (Region thread depth) (length (chain m x (Region thread depth)))) only slots in
    let stacks : d.stacks ≡ mid.stacks = ap (λ (x : Contents). x.stacks) slots.frame in
    let first : (j : ℕ) → j + 1 ≢ thread → row own.stacks j ≡ row c.stacks j = λ j ne. ap (λ (ss : List (List ℕ)). row ss j) rows ∙ get_or-set_other c.stacks (thread - 1) j st [] (λ q. ne (omega (arith, q, some))) in
    let last : (j : ℕ) → row d.stacks j ≡ row mid.stacks j = λ j. ap (λ (ss : List (List ℕ)). row ss j) stacks in
    record {
      frame = k.frame ∙ ap (λ (ss : List (List ℕ)). record c { stacks = ss; heap = d.heap }) (sym stacks);
      rows = ap (λ (ss : List (List ℕ)). length ss) stacks ∙ r.size ∙ ap (λ (ss : List (List ℕ)). length ss) rows ∙ length-set c.stacks (thread - 1) st;
      own = last (thread - 1) ∙ r.others (thread - 1) (λ _ _ ne _. ne (omega (arith, some))) ∙ ap (λ (ss : List (List ℕ)). row ss (thread - 1)) rows ∙ get_or-set_same c.stacks (thread - 1) st [] within;
      read = λ j lt ne is. last j ∙ r.read j (omega arith) lt ne (subst (λ w. IsBitSet w j) (sym word) is) ∙ ap (corrected_stack f) (first j ne);
      others = λ j ne h. last j ∙ r.others j (λ _ lt _ is. h lt (subst (λ w. IsBitSet w j) word is)) ∙ first j ne;
      size = k.size;
      slots = λ i lt out. k.slots i lt out;
      fields = λ a h. k.others a (λ i lt out. h i lt out);
    }

-- the chain stays while stacks are corrected
pub ready_stacked : (m : Areas) (c d : Contents) (region : Space) (count : ℕ) (moves : ℕ → Move) → d ≡ record c { stacks = d.stacks } → SlotsReady m c region count moves → SlotsReady m d region count moves
ready_stacked m c d region count moves frame ready = subst (λ (x : Contents). SlotsReady m x region count moves) (sym frame) (record { sets = ready.sets; lead = ready.lead; beside = ready.beside })
