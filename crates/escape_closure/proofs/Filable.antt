-- What the filing of slots at the end of a region wants.
use Rattle.std.proofs.Common.{◌≡◌, ◌≤◌, ◌<◌, ℕ, Bool, false, sym, subst}
use Rattle.std.specs.List.{All}
use Rattle.heap_words.specs.declared.map.Areas.{Areas}
use Rattle.heap_words.specs.Map.{HasThread, IsAreas, heap_length}
use Rattle.heap_words.specs.Contents.{Contents, depth_of}
use Rattle.epoch_lattice.specs.declared.Space.{Space}
use Rattle.epoch_lattice.specs.declared.TheConstants.{MAX_DEPTH}
use Rattle.epoch_lattice.specs.Lattice.{IsValid}
use Rattle.yak_model.specs.Spaces.{SpaceState, innermost}
use Rattle.yak_model.specs.Placed.{Places}
use Rattle.yak_model.specs.Plans.{Move}
use Rattle.yak_model.specs.Stands.{Stands}
use Rattle.yak_model.specs.Recorded.{Recorded}
use Rattle.relocation.specs.Moves.{HasHeader, move_at}
use Rattle.remember_sets.specs.Filed.{IsSlot, PagesKnown, chain, enters, outside}
use Rattle.forwarding.specs.Slots.{slots_at}
use Rattle.escape_closure.specs.Leaving.{EndMoves}
use Rattle.escape_closure.proofs.LeftFields.{Lies, moved_fit, pages_known, slots_fit, slots_leave}
use Rattle.escape_closure.proofs.Written.{innermost_region}

-- the object at the new place of a move, whose fields can be filed
abbrev pub MovedFits : Areas → Contents → ℕ → Type 0
MovedFits m d k = HasHeader d.heap (move_at d.scratch k).new × ((move_at d.scratch k).new < heap_length m) × All (IsSlot m d) (slots_at d.heap (move_at d.scratch k).new)

-- the slots of a region's chain can be filed anew, and those of the fields of moved objects
pub record Filable (m : Areas) (d : Contents) (x : Space) (count : ℕ) : Type 0 where
  pub slots : All (IsSlot m d) (chain m d x)
  pub left : All (λ a. enters m d x a ≡ false) (chain m d x)
  pub pages : PagesKnown m d
  pub moved : (k : ℕ) → k < count → MovedFits m d k

pub filable : (m : Areas) (c : Contents) (s : SpaceState) (st : Stands m c s) → Recorded m c s st → (areas : IsAreas m) (t count : ℕ) (has : HasThread m t) (low : 1 ≤ depth_of c t) (moves : ℕ → Move) (tight : Bool) (e : EndMoves s st.places t count moves tight) → ((k : ℕ) → k < count → IsValid MAX_DEPTH (moves k).space) → (d : Contents) (later : Places) → Lies m s st.places t count moves d later → (x : Space) → innermost s.graph t ≡ x → chain m d (innermost s.graph t) ≡ outside m c (innermost s.graph t) (chain m c (innermost s.graph t)) → move_at d.scratch ≡ moves → Filable m d x count
filable m c s st recorded areas t count has low moves tight e spaces d later lies x is kept same =
    let region : Space = innermost s.graph t in
    let own = innermost_region m c s st t has low in
    let at_region : Filable m d region count = record {
      slots = subst (All (IsSlot m d)) (sym kept) (slots_fit m c s st recorded areas t count has low moves tight e spaces d later lies own);
      left = subst (All (λ a. enters m d region a ≡ false)) (sym kept) (slots_leave m c s st recorded areas t count has low moves tight e spaces d later lies own);
      pages = pages_known m c s st recorded areas t count has low moves tight e spaces d later lies;
      moved = subst (λ (v : ℕ → Move). (k : ℕ) → k < count → HasHeader d.heap (v k).new × ((v k).new < heap_length m) × All (IsSlot m d) (slots_at d.heap (v k).new)) (sym same) (moved_fit m c s st recorded areas t count has low moves tight e spaces d later lies);
    } in
    subst (λ (y : Space). Filable m d y count) is at_region
