-- Work words of a region's objects, cleared page by page.
use Rattle.std.proofs.Common.{◌≡◌, ◌≢◌, ℕ, ◌+◌, ◌≤◌, List, get_or, length, sym, ap, subst, ◌∙◌, arith, inl, inr, get_or-set_other}
use Rattle.std.proofs.lemmas.Bool.{cases_eq}
use Rattle.std.proofs.lemmas.List.{ext_get_or}
use Rattle.object_layout.specs.declared.names.Name.{Name}
use Rattle.epoch_lattice.specs.declared.Space.TheVariants.{Region}
use Rattle.epoch_lattice.specs.declared.TheConstants.{MAX_DEPTH}
use Rattle.epoch_lattice.specs.Lattice.{space_index}
use Rattle.heap_words.specs.declared.map.Areas.{Areas}
use Rattle.heap_words.specs.Map.{HasThread, IsAreas, heap_length, scratch_length}
use Rattle.heap_words.specs.Contents.{Contents, with_heap}
use Rattle.yak_model.specs.Spaces.{SpaceState, innermost}
use Rattle.yak_model.specs.State.{Thing}
use Rattle.yak_model.specs.Placed.{Places, space_word}
use Rattle.yak_model.specs.Stands.{Stands}
use Rattle.heap_walks.specs.Laid.{Laid, IsAmong, IsThing, work_at, work_of}
use Rattle.heap_walks.specs.Walked.{IsPagePassed}
use Rattle.heap_walks.proofs.Works.{among_written, own_word, written}
use Rattle.escape_closure.specs.Cleared.{ArePagesClear, ClearsOn, IsClear}
use Rattle.escape_closure.specs.Rolls.{AimsInside, OnlyScratch}
use Rattle.escape_closure.specs.Targets.{TargetsWritten}
use Rattle.escape_closure.proofs.Weighed.{aimed, aims_inside}

pub clears_none : (m : Areas) (h : Laid) (c : Contents) → IsAmong m h c → ClearsOn m h c c
clears_none m h c a = record { among = a; still = λ n z. z }

pub clears_then : (m : Areas) (h : Laid) (c mid d : Contents) → ClearsOn m h c mid → ClearsOn m h mid d → ClearsOn m h c d
clears_then m h c mid d a b = record {
  among = b.among;
  still = λ n z. b.still n (a.still n z);
}

-- one work word
module _ (m : Areas) (h : Laid) (c d : Contents) (n : Name) (o : Thing) (a : ℕ) (among : IsAmong m h c) (present : IsThing h n o) (at : a ≡ h.places.at n + 2) (made : d ≡ with_heap c a 0) where
  made_there : d ≡ written m h c among n o present 0
  made_there = made ∙ ap (λ i. with_heap c i 0) at

  pub clear_now : IsClear h d n
  clear_now = ap (λ (x : Contents). work_of h x n) made_there ∙ own_word m h c among n o present 0

  pub clears_one : ClearsOn m h c d
  clears_one = record {
    among = subst (IsAmong m h) (sym made_there) (among_written m h c among n o present 0);
    still = λ x z. elim (cases_eq (work_at h x) (work_at h n)) [
      | inl e ↦ ap (λ i. get_or d.heap i 0) e ∙ clear_now
      | inr ne ↦ ap (λ (y : Contents). work_of h y x) made_there ∙ get_or-set_other c.heap (work_at h n) (work_at h x) 0 0 ne ∙ z
    ];
  }

pub pages_more : (m : Areas) (h : Laid) (mid d : Contents) (table : List (List ℕ)) (region page : ℕ) → ClearsOn m h mid d → ArePagesClear h mid table region page → (space_word table page ≡ region + 1 → IsPagePassed h (IsClear h d) page) → ArePagesClear h d table region (page + 1)
pages_more m h mid d table region page on before now p lt own = elim (cases_eq p page) [
  | inl e ↦ subst (IsPagePassed h (IsClear h d)) (sym e) (now (ap (space_word table) (sym e) ∙ own))
  | inr ne ↦ λ n k at. on.still n (before p (omega (arith, lt, ne)) own n k at)
]

-- targets stand, where only words of the scratch area have changed
written_scratch : (m : Areas) (s : SpaceState) (l : Places) (t : ℕ) (b now c : Contents) (escaping : ℕ) → TargetsWritten m s l t b now escaping → OnlyScratch now c → TargetsWritten m s l t b c escaping
written_scratch m s l t b now c escaping w only =
    subst (λ (x : Contents). TargetsWritten m s l t b x escaping) (sym only)
    (record {
      targets = w.targets;
      others = w.others;
      counted = w.counted;
      frame = ap (λ (x : Contents). record x { scratch = c.scratch }) w.frame;
      size = w.size;
      kept = w.kept;
      heap = w.heap;
    })

module _ (m : Areas) (b now c : Contents) (s : SpaceState) (st : Stands m b s) (t depth escaping : ℕ) (areas : IsAreas m) (has : HasThread m t) (low : 1 ≤ depth) (high : depth ≤ MAX_DEPTH) (w : TargetsWritten m s st.places t b now escaping) (only : OnlyScratch now c) (region : innermost s.graph t ≡ Region t depth) (heap : length c.heap ≡ heap_length m) (scratch : length c.scratch ≡ scratch_length m) where
  ready : AimsInside m (aimed m b c s st t depth)
  ready = aims_inside m b c s st t depth escaping areas has low high (written_scratch m s st.places t b now c escaping w only) region heap scratch

  abbrev pub laid : Laid
  laid = (aimed m b c s st t depth).laid

  pub among : IsAmong m laid c
  among = ready.among

  pub table_now : c.table ≡ b.table
  table_now = ap (λ (x : Contents). x.table) among.frame

  pub all_clear : (d : Contents) → ClearsOn m laid c d → ArePagesClear laid d c.table (space_index (Region t depth)) m.pages → (n : Name) (o : Thing) → IsThing laid n o → IsClear laid d n
  all_clear d on pages n o present = elim (cases_eq (work_of laid c n) 0) [
    | inl zero ↦ on.still n zero
    | inr some ↦
        let p = st.stands.heap.present n o present in
        let own = st.stands.heap.whole n p.0 p.1 p.2 in
        let aims : work_of laid c n ≢ 0 = some in
        let home = ready.inside n own.0 own.1 aims in
        let word : space_word c.table p.0 ≡ space_index (Region t depth) + 1 = ap (λ (x : List (List ℕ)). space_word x p.0) table_now ∙ own.2 ∙ ap (λ x. space_index x + 1) home in
        pages p.0 (omega (arith, p.2.page, st.stands.heap.count)) word n p.1 p.2
  ]

  pub as_before : (d : Contents) → ClearsOn m laid c d → ArePagesClear laid d c.table (space_index (Region t depth)) m.pages → d ≡ record b { scratch = d.scratch }
  as_before d on pages =
      let clear = all_clear d on pages in
      let long : length d.heap ≡ length b.heap = on.among.heap_size ∙ sym heap ∙ (written_scratch m s st.places t b now c escaping w only).size in
      let same : d.heap ≡ b.heap = ext_get_or 0 d.heap b.heap long (λ a lt. elim (cases_eq (get_or d.heap a 0) (get_or b.heap a 0)) [
        | inl e ↦ e
        | inr ne ↦ on.among.kept a (λ n o present at. ne (ap (λ i. get_or d.heap i 0) at ∙ clear n o present ∙ sym (st.stands.heap.held n o present).work_word ∙ ap (λ i. get_or b.heap i 0) (sym at)))
      ]) in
      on.among.frame ∙ ap (λ (hs : List ℕ). record b { scratch = d.scratch; heap = hs }) same
