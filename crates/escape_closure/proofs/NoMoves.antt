-- The plan of an end where no object escapes.
use Rattle.std.proofs.Common.{◌≡◌, ℕ, ◌≤◌, false, length, Ok, refl, sym, ap, ◌∙◌, arith}
use Rattle.std.specs.FinSet as names
use Rattle.object_layout.specs.declared.names.Name.{Name}
use Rattle.epoch_lattice.specs.declared.Space.TheVariants.{Region}
use Rattle.epoch_lattice.specs.declared.TheConstants.{MAX_DEPTH}
use Rattle.heap_words.specs.declared.map.Areas.{Areas}
use Rattle.heap_words.specs.Map.{HasThread, IsAreas, heap_length, scratch_length}
use Rattle.heap_words.specs.Contents.{Contents, depth_of}
use Rattle.yak_model.specs.Names.{name_cmp, root_name}
use Rattle.yak_model.specs.Spaces.{Counts, SpaceState, innermost}
use Rattle.yak_model.specs.Stands.{CurrentsStand, PoolStands, Stands}
use Rattle.region_pages.specs.Pages.{TableFits}
use Rattle.relocation.specs.Moves.{move_at}
use Rattle.relocation.proofs.Planned.{numbered-none}
use Rattle.escape_closure.specs.Ends.{EndPlanned}
use Rattle.escape_closure.specs.Needs.{RollWeighed}
use Rattle.escape_closure.specs.Placing.{Filling, filling, index_on, rooms_at, size_on}
use Rattle.escape_closure.specs.Planning.{RollPlaced}
use Rattle.escape_closure.specs.Rolls.{AimsInside, Rolled}
use Rattle.escape_closure.specs.Targets.{IsEscaping, TargetsWritten}
use Rattle.escape_closure.proofs.Placing.{filling_none}
use Rattle.escape_closure.proofs.PlannedEnd.{end_planned}
use Rattle.escape_closure.proofs.SoFar.{so_far_first}
use Rattle.escape_closure.proofs.Underway.{starts}
use Rattle.escape_closure.proofs.Weighed.{aimed, aims_inside, escapes}

-- a collection of no names has none
counted_none : (collection : Name → Type 0) → Counts collection 0 → (n : Name) → collection n → ⊥
counted_none collection all n here =
    let nothing : all.0 ≡ names.empty = names.empty_of_len all.0 (sym all.2) in
    let yes = (all.1 n).1 here in
    let no = names.contains-empty name_cmp n in
    let none : names.contains all.0 n ≡ false = ap (λ xs. names.contains xs n) nothing ∙ no in cc

module _ (m : Areas) (b c : Contents) (s : SpaceState) (st : Stands m b s) (t depth : ℕ) (areas : IsAreas m) (has : HasThread m t) (low : 1 ≤ depth) (high : depth ≤ MAX_DEPTH) (written : TargetsWritten m s st.places t b c 0) (region : innermost s.graph t ≡ Region t depth) (depth_is : depth ≡ depth_of b t) where
  module _ (heap : length c.heap ≡ heap_length m) (scratch : length c.scratch ≡ scratch_length m) where
    ready : AimsInside m (aimed m b c s st t depth)
    ready = aims_inside m b c s st t depth 0 areas has low high written region heap scratch

    roll : Rolled (aimed m b c s st t depth) c (heap_length m) 0
    roll = record {
      name = λ _. root_name;
      aimed = λ k lt. absurd (omega (arith, lt));
      below = λ k lt. absurd (omega (arith, lt));
      ascending = λ j k _ lt. absurd (omega (arith, lt));
      stands = λ k lt. absurd (omega (arith, lt));
      room = omega arith;
      frame = refl;
      size = refl;
    }

    weighed : RollWeighed m (aimed m b c s st t depth) t 0 c 0 (Ok 0)
    weighed =
        let q = aimed m b c s st t depth in
        let none : (filling m (rooms_at m c t) (index_on q c (heap_length m) 0 roll) (size_on q c (heap_length m) 0 roll) 0).claimed ≡ 0 = ap (λ (f : Filling). f.claimed) (filling_none m (rooms_at m c t) (index_on q c (heap_length m) 0 roll) (size_on q c (heap_length m) 0 roll)) in
        record {
          count = 0;
          roll = roll;
          all = λ n o present some. absurd (counted_none (IsEscaping s t) written.counted n (escapes m b c s st t depth 0 areas has low high written region n o present some));
          weighed = (refl, omega (arith, none));
          reads = omega arith;
        }

    placed : RollPlaced m (aimed m b c s st t depth) t 0 c 0 0
    unfolding weighed
    placed = record {
      between = c;
      read = 0;
      weighed = weighed;
      underway = starts m (aimed m b c s st t depth) t c 0 roll areas;
      so_far = so_far_first m (aimed m b c s st t depth) c 0 roll ready;
      reads = omega arith;
    }

    pub planned_none : TableFits m c.table → PoolStands m c.heads c.pool c.table → CurrentsStand m c.currents c.table → EndPlanned m c c s st.places t 0
    planned_none fits pool currents = end_planned m b c s st t depth 0 areas has low high written region depth_is ready c 0 0 0 placed fits (numbered-none m c.heap (move_at c.scratch)) pool currents refl
