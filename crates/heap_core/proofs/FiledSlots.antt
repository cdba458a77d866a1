-- The recorded slots of a collection and of an end before which the store buffers were filed.
use Rattle.std.proofs.Common.{◌≡◌, ◌⊎◌, ℕ, ◌+◌, ◌/◌, ◌≤◌, ◌<◌, List, [], ◌∷◌, ◌++◌, map, is_some, Option, refl, sym, ap, subst, ◌∙◌, arith}
use Rattle.std.specs.Prelude.{◌↔◌}
use Rattle.std.specs.List.{Contains, filter, flat_map}
use Rattle.std.proofs.lemmas.List.Elements.{All-head, All-tail}
use Rattle.object_layout.specs.declared.names.Name.{Name}
use Rattle.object_layout.specs.declared.TheConstants.{OBJECT_WORDS}
use Rattle.heap_words.specs.declared.map.Areas.{Areas}
use Rattle.heap_words.specs.Map.{HasThread, max_depth, page_words}
use Rattle.heap_words.specs.Contents.{Contents}
use Rattle.epoch_lattice.specs.declared.Space.{Space}
use Rattle.epoch_lattice.specs.Lattice.{space_index}
use Rattle.yak_model.specs.Chains.{IsRegionOf}
use Rattle.yak_model.specs.Graph.{thread_of}
use Rattle.yak_model.specs.Spaces.{SpaceState, innermost}
use Rattle.yak_model.specs.State.{Thing, view}
use Rattle.yak_model.specs.Placed.{space_word}
use Rattle.yak_model.specs.Stands.{Stands}
use Rattle.remember_sets.specs.Filed.{all_filed, chain, logged}
use Rattle.standing_calls.proofs.Logs.{depths-fit}
use Rattle.standing_calls.proofs.Named.{depth-shown}
use Rattle.forwarding.specs.Crossing.{AreFiled}
use Rattle.mark_compact.specs.Collected.{SlotsCollected}
use Rattle.escape_closure.specs.Leaves.{FilesEnded, FilesRecorded, IsCrossingInto}
use Rattle.escape_closure.specs.Targets.{IsEscaping}
use Rattle.escape_closure.proofs.Reaches.{inner_region}

-- filed buffers have no entry
none_logged : (bs : List (List ℕ)) → AreFiled bs → flat_map (λ (es : List ℕ). es) bs ≡ []
none_logged [] h = refl
none_logged (b ∷ bs) h =
    ap (λ (es : List ℕ). es ++ flat_map (λ (es : List ℕ). es) bs) (All-head (λ (es : List ℕ). es ≡ []) b bs h)
    ∙ none_logged bs (All-tail (λ (es : List ℕ). es ≡ []) b bs h)

-- filing once more leaves the chains that the first filing made
filed_once : (m : Areas) (c d : Contents) (x : Space) → FilesRecorded m c d → AreFiled d.buffers → IsRegionOf m x → all_filed m d x (logged d) (chain m d x) ≡ all_filed m c x (logged c) (chain m c x)
filed_once m c d x files filed region = ap (λ (es : List ℕ). all_filed m d x es (chain m d x)) (none_logged d.buffers filed) ∙ files x region

-- a collection behind a filing leaves the slots that it leaves without
pub collected-before : (m : Areas) (c d e : Contents) (before after : Name → Option Thing) (at first now : Name → ℕ) → FilesRecorded m c d → AreFiled d.buffers → first ≡ at → SlotsCollected m d e before after first now → SlotsCollected m c e before after at now
collected-before m c d e before after at first now files filed same h = record {
  stays = h.stays;
  goes = h.goes;
  kept = λ n o f there lt. subst (λ (place : Name → ℕ). h.stays (place n + OBJECT_WORDS + f) ≡ is_some (after n)) same (h.kept n o f there lt);
  moved = λ n o f there lt. subst (λ (place : Name → ℕ). h.goes (place n + OBJECT_WORDS + f) ≡ now n + OBJECT_WORDS + f) same (h.moved n o f there lt);
  chains = λ x region. h.chains x region ∙ ap (λ (slots : List ℕ). map h.goes (filter h.stays slots)) (filed_once m c d x files filed region);
}

-- and so does an end
pub ended-before : (m : Areas) (c d e : Contents) (s : SpaceState) (t : ℕ) (objects : Name → Option Thing) (at : Name → ℕ) → IsRegionOf m (innermost s.graph t) → FilesRecorded m c d → AreFiled d.buffers → d.table ≡ c.table → FilesEnded m d e s t objects at → FilesEnded m c e s t objects at
ended-before m c d e s t objects at own files filed table h = record {
  none = h.none;
  others = λ x region ne a.
      let told : List ℕ → List ℕ → List (List ℕ) → Type 0 = λ here there pages.
      let within : Type 0 = space_word pages (a / page_words m) ≡ space_index (innermost s.graph t) + 1 in
      Contains (chain m e x) a ↔ ((Contains here a × (within → ⊥)) ⊎ ((Contains there a × (within → ⊥)) × IsCrossingInto objects at x a) ⊎ ((k : IsCrossingInto objects at x a) × IsEscaping s t k.from)) in
      subst (λ (here : List ℕ). told here (all_filed m c (innermost s.graph t) (logged c) (chain m c (innermost s.graph t))) c.table) (filed_once m c d x files filed region)
      (subst (λ (there : List ℕ). told (all_filed m d x (logged d) (chain m d x)) there c.table) (filed_once m c d (innermost s.graph t) files filed own)
      (subst (λ (pages : List (List ℕ)). told (all_filed m d x (logged d) (chain m d x)) (all_filed m d (innermost s.graph t) (logged d) (chain m d (innermost s.graph t))) pages) table (h.others x region ne a)));
}

-- the innermost space of a thread in an epoch is a region of the heap
pub innermost-region : (m : Areas) (c : Contents) (s : SpaceState) (h : Stands m c s) (t : ℕ) → HasThread m t → 0 < (thread_of s.graph t).depth → IsRegionOf m (innermost s.graph t)
innermost-region m c s h t ht some =
    let deep : (thread_of s.graph t).depth ≤ max_depth m = omega (arith, depths-fit m c (view s) h.places h.stands t, depth-shown s t) in
    subst (IsRegionOf m) (sym (inner_region t (thread_of s.graph t).depth (omega (arith, some)))) (ht.0, ht.1, omega (arith, some), deep)
