-- The words that an end moves, in the words before and after the moves.
use Rattle.std.proofs.Common.{◌≡◌, ℕ, ◌+◌, ◌*◌, ◌≤◌, ◌<◌, Bool, false, Some, List, get_or, length, zero, suc, refl, sym, ap, ◌∙◌, arith}
use Rattle.object_layout.specs.declared.TheConstants.{OBJECT_WORDS}
use Rattle.heap_words.specs.declared.map.Areas.{Areas}
use Rattle.heap_words.specs.Map.{HasThread, IsAreas}
use Rattle.heap_words.specs.Contents.{Contents, depth_of}
use Rattle.epoch_lattice.specs.Lattice.{space_index}
use Rattle.yak_model.specs.Spaces.{SpaceState, home_of, innermost}
use Rattle.yak_model.specs.State.{Thing, object_of, view}
use Rattle.yak_model.specs.Plans.{Move, forwarded, without}
use Rattle.yak_model.specs.Stands.{Stands, words_taken}
use Rattle.relocation.specs.Moves.{move_at, size_at, words_moved}
use Rattle.relocation.proofs.Lawful.{by_move-at}
use Rattle.relocation.proofs.Moving.{fields_at-header}
use Rattle.relocation.proofs.SlidLawful.{keep-case}
use Rattle.forwarding.specs.Entering.{words_brought}
use Rattle.escape_closure.specs.Ends.{References}
use Rattle.escape_closure.specs.Leaving.{Carried, ReadyToMove, is_home, left_behind}
use Rattle.escape_closure.proofs.Carries.{innermost_valid, rest}
use Rattle.escape_closure.proofs.Fates.{OneEach, moves_so, one_each}
use Rattle.escape_closure.proofs.Leads.{moved_at, size_now, words_same}
use Rattle.escape_closure.proofs.MovedWords.{moved_few, three_each}

brought_same : (was now : List ℕ) (count : ℕ) (moves : ℕ → Move) → ((k : ℕ) → k < count → size_at now (moves k).new ≡ size_at was (moves k).old) → words_brought now count moves ≡ words_moved was count moves
unfolding words_brought words_moved
brought_same was now zero moves same = refl
brought_same was now (suc k) moves same =
    let rest = brought_same was now k moves (λ j lt. same j (omega (arith, lt))) in
    let own = same k (omega arith) in
    omega (arith, rest, own)

module _ (m : Areas) (before c : Contents) (s : SpaceState) (st : Stands m before s) (t count : ℕ) (tight : Bool) (areas : IsAreas m) (has : HasThread m t) (low : 1 ≤ depth_of before t) (r : ReadyToMove m before c s st t count tight) where
  abbrev moves : ℕ → Move
  moves = move_at c.scratch

  one : OneEach s st.places
  one = one_each m before.table before.heap s st.places (λ _. 0) st.stands.heap

  -- the words of the moved objects are among those of the region
  pub few_words : (words_moved c.heap count (move_at c.scratch) ≤ words_taken st.places.pages (object_of s) (innermost s.graph t)) × (3 * count ≤ words_taken st.places.pages (object_of s) (innermost s.graph t))
  few_words =
      let a = moved_few m before c s st t count areas has.0 r.ready in
      let b = three_each c.heap count moves in
      (a, omega (arith, a, b))

  -- an object that moves is left
  kept_so : (k : ℕ) → (lt : k < count) → (without (view s) (left_behind s st.places t count moves)).objects (moved_at m before c s st t count areas has.0 r.ready k lt).name ≡ Some (moved_at m before c s st t count areas has.0 r.ready k lt).thing
  kept_so k lt =
      let w = moved_at m before c s st t count areas has.0 r.ready k lt in
      keep-case (view s) (left_behind s st.places t count moves) w.name w.thing false (by_move-at count moves (λ v. false) (st.places.at w.name) (is_home (innermost s.graph t) (home_of s w.name)) k r.moves.ascending lt w.place) refl w.present

  pub words_mid : (mid : Contents) → References m c mid s st.places t count → words_moved mid.heap count (move_at c.scratch) ≡ words_moved c.heap count (move_at c.scratch)
  words_mid mid refs = words_same c.heap mid.heap count moves (λ k lt.
      let w = moved_at m before c s st t count areas has.0 r.ready k lt in
      let holds = refs.holds (left_behind s st.places t count moves) (rest m before c s st t count tight areas has low r) in
      let stands = holds.stands w.name w.thing (kept_so k lt) in
      let limits = holds.limits w.name w.thing (kept_so k lt) in
      let size : size_at mid.heap (moves k).old ≡ length w.thing.fields + OBJECT_WORDS = ap (size_at mid.heap) (sym w.place) ∙ ap (λ i. i + 3) (fields_at-header mid.heap (st.places.at w.name) (record { fields = length w.thing.fields; space = space_index w.thing.home }) limits stands.header) in
      size ∙ sym (size_now m before c s st t count areas has.0 r.ready k lt))

  pub words_later : (moved : Contents) → Carried m c moved s st.places t count → words_brought moved.heap count (move_at c.scratch) ≡ words_moved c.heap count (move_at c.scratch)
  words_later moved carried = brought_same c.heap moved.heap count moves (λ k lt.
      let w = moved_at m before c s st t count areas has.0 r.ready k lt in
      let x = moves_so s st.whole st.places one t count has.0 (innermost_valid m before s st t areas has low) moves tight r.moves w.name w.thing k w.present lt w.place in
      let at : forwarded count moves st.places.at w.name ≡ (moves k).new = by_move-at count moves (λ v. v.new) (st.places.at w.name) (st.places.at w.name) k r.moves.ascending lt w.place in
      let o : Thing = record w.thing { home = (moves k).space } in
      let stands = carried.holds.stands w.name o x.0 in
      let limits = carried.holds.limits w.name o x.0 in
      let header = ap (λ a. get_or moved.heap a 0) (sym at) ∙ stands.header in
      let size : size_at moved.heap (moves k).new ≡ length w.thing.fields + OBJECT_WORDS = ap (λ i. i + 3) (fields_at-header moved.heap (moves k).new (record { fields = length o.fields; space = space_index o.home }) limits header) in
      size ∙ sym (size_now m before c s st t count areas has.0 r.ready k lt))
