-- The plan of the end of a region that references can follow.
use Rattle.std.proofs.Common.{◌≡◌, ◌≢◌, ℕ, ◌+◌, false, Some, List, get_or, set, refl, sym, ap, subst, ◌∙◌, arith}
use Rattle.object_layout.specs.declared.names.Name.{Name}
use Rattle.object_layout.specs.declared.TheConstants.{OBJECT_WORDS}
use Rattle.heap_words.specs.declared.map.Areas.{Areas}
use Rattle.heap_words.specs.Map.{HasThread, IsAreas}
use Rattle.heap_words.specs.Contents.{Contents}
use Rattle.yak_model.specs.Spaces.{SpaceState, innermost}
use Rattle.yak_model.specs.State.{Thing, object_of, view}
use Rattle.yak_model.specs.Placed.{Holds, space_word}
use Rattle.yak_model.specs.Stands.{Stands, claim_counter}
use Rattle.remember_sets.specs.Filed.{SetsHold}
use Rattle.heap_walks.specs.Laid.{IsKeptWord, Laid}
use Rattle.heap_walks.proofs.Objects.{home_index, in_heap, kept_word}
use Rattle.heap_walks.proofs.Seen.{present_home, shown}
use Rattle.region_pages.specs.declared.TheConstants.{CLAIM_COUNTER}
use Rattle.relocation.specs.Moves.{move_at}
use Rattle.escape_closure.specs.Targets.{IsTargetAt}
use Rattle.escape_closure.specs.Ends.{EndPlanned}
use Rattle.escape_closure.specs.Leaving.{EndMoves, ReadyToMove, RegionReady}
use Rattle.escape_closure.proofs.Reaches.{reached_here}

-- the objects stand in words of which only work words have changed
pub still_holds : (m : Areas) (before : Contents) (s : SpaceState) (st : Stands m before s) (heap : List ℕ) → IsAreas m → ((a : ℕ) → ((n : Name) (o : Thing) → object_of s n ≡ Some o → a ≢ st.places.at n + 2) → get_or heap a 0 ≡ get_or before.heap a 0) → Holds m heap st.places.at st.places.at (λ n. get_or heap (st.places.at n + 2) 0) (object_of s)
still_holds m before s st heap areas kept =
    let laid : Laid = record { state = view s; places = st.places; before = before } in
    record {
      within = λ n o e. in_heap m laid n o st.stands e;
      limits = λ n o e. ((st.stands.closed.fields n o e).1, home_index m laid n o areas st.stands e);
      stands = λ n o e.
          let held = st.stands.heap.held n o e in
          let first : IsKeptWord laid (st.places.at n) = λ x p f q. kept_word m laid n o 0 st.stands e (omega arith) (omega arith) x p f (omega (arith, q)) in
          record {
            header = kept (st.places.at n) first ∙ held.header;
            name = kept (st.places.at n + 1) (kept_word m laid n o 1 st.stands e (omega arith) (omega arith)) ∙ held.name;
            work_word = refl;
            fields = λ f lt.
                let own : IsKeptWord laid (st.places.at n + OBJECT_WORDS + f) = λ x p g q. kept_word m laid n o (OBJECT_WORDS + f) st.stands e (omega arith) (omega arith) x p g (omega (arith, q)) in
                kept (st.places.at n + OBJECT_WORDS + f) own ∙ held.fields f lt;
          };
    }

module _ (m : Areas) (before mid c : Contents) (s : SpaceState) (st : Stands m before s) (t count : ℕ) (areas : IsAreas m) (has : HasThread m t) (r : RegionReady m before mid c s st t count) where
  planned : EndPlanned m mid c s st.places t count
  planned = r.planned

  pub end_moves : EndMoves s st.places t count (move_at c.scratch) false
  end_moves = record {
    ascending = planned.numbered.ascending;
    moved = λ k lt. (planned.order.name k, planned.order.escaping k lt, sym (planned.moves k lt).0);
    complete = λ n esc.
        let w = planned.order.complete n esc in
        (w.0, w.1, ap st.places.at (sym w.2) ∙ sym (planned.moves w.0 w.1).0, planned.order.target w.0, subst (λ x. IsTargetAt s t x (planned.order.target w.0)) w.2 (planned.order.targets w.0 w.1).1, (planned.moves w.0 w.1).1);
  }

  -- a word that isn't the work word of a present object is as before
  kept_before : (a : ℕ) → ((n : Name) (o : Thing) → object_of s n ≡ Some o → a ≢ st.places.at n + 2) → get_or c.heap a 0 ≡ get_or before.heap a 0
  kept_before a none =
      planned.heap a (λ k lt e.
      let i = reached_here s st.whole t has.0 (innermost s.graph t) (planned.order.name k) (planned.order.escaping k lt).0 (planned.order.escaping k lt).1 in
      none (planned.order.name k) i.0 i.1 (e ∙ ap (λ x. x + 2) (planned.moves k lt).0))
      ∙ r.written.kept a (λ n present.
      let home = present_home s n present in
      let o = shown s n home.0 st.whole home.1 in
      none n o.0 o.1)

  planned_frame : c ≡ record before { heads = set before.heads CLAIM_COUNTER (claim_counter c.heads); currents = c.currents; table = c.table; scratch = c.scratch; heap = c.heap }
  planned_frame = planned.frame ∙ ap (λ (x : Contents). record x { heads = set x.heads CLAIM_COUNTER (claim_counter c.heads); currents = c.currents; table = c.table; scratch = c.scratch; heap = c.heap }) r.written.frame

  pub plan_frame : c ≡ record before { heads = c.heads; currents = c.currents; table = c.table; scratch = c.scratch; heap = c.heap }
  plan_frame = planned_frame ∙ ap (λ (hs : List ℕ). record before { heads = hs; currents = c.currents; table = c.table; scratch = c.scratch; heap = c.heap }) (sym (ap (λ (x : Contents). x.heads) planned_frame))

  table_same : mid.table ≡ before.table
  table_same = ap (λ (x : Contents). x.table) r.written.frame

  pub region_ready : ReadyToMove m before c s st t count false
  region_ready = record {
    ready = record {
      recorded = r.filed.recorded;
      filed = r.filed.filed;
      moved = end_moves.moved;
      complete = λ n esc. let w = end_moves.complete n esc in (w.0, w.1, w.2);
      numbered = planned.numbered;
      holds = still_holds m before s st c.heap areas kept_before;
      kept = λ p lt ne.
          let same : space_word mid.table p ≡ space_word before.table p = ap (λ (ts : List (List ℕ)). space_word ts p) table_same in
          planned.kept p lt (λ z. ne (sym same ∙ z)) ∙ same;
      frame = plan_frame;
    };
    moves = end_moves;
    lawful = planned.lawful;
    sets = subst (SetsHold m) (sym plan_frame) st.stands.sets;
  }
