use Rattle.std.proofs.Common.{refl, List}
use Rattle.escape_closure.proofs.Rolls.{scratch_then}
use Rattle.escape_closure.specs.Rolls.{OnlyScratch}
use Rattle.std.proofs.Props.{props}
use Rattle.std.proofs.Math.Logic.{∥∥₁_elim, ∥∥₁_map}
use Rattle.std.proofs.Common.{◌≡◌, ◌+◌, ◌*◌, ℕ, arith, sym, ap, ◌∙◌, subst, length}
use Rattle.object_layout.specs.declared.TheConstants.{OBJECT_WORDS}
use Rattle.heap_words.specs.Map.{page_words}
use Rattle.heap_words.specs.Contents.{contents}
use Rattle.escape_closure.specs.Rolls.{Rolled, IsOnRoll, Grows}
use Rattle.heap_walks.proofs.Objects.{counted}
use Rattle.heap_walks.proofs.Pages.{Met, meets, met_fits, met_used, used_fits, walk_begins, walk_ends, walk_goes}
use Rattle.escape_closure.proofs.Rolls.{among_now, grows_first, grows_then, grows_wider}
use Rattle.escape_closure.proofs.rolling.roll_page.Goals as goal

pub overflow_add-start : goal.overflow_add-start
overflow_add-start g c =
    ∥∥₁_elim c.requires.some (hlevel props) (λ z.
    let m = c.args.map in
    let q = z.0 in
    let old = contents m (g.W.Words.words c.args.words.now) in
    let now = c.loop-offset.invariant.rolled q z.1 z.2 in
    let among = among_now m q old (page_words m * c.args.page) c.args.count z.1 z.2 in
    let met : Met m q.laid c.args.page c.loop-offset.offset now.1.place = meets m q.laid old (IsOnRoll q now.0.roll.name c.loop-offset.count) c.args.page c.loop-offset.offset c.get_page-used.result among c.requires.page c.get_page-used.ensures.value now.1 c.loop-offset-test.true in
    let b = met_fits m q.laid old c.args.page c.loop-offset.offset now.1.place among met in
    let areas = c.requires.sound.areas in
    omega (arith, b, areas, ap (λ w. w * c.args.page) c.page_words.ensures))

pub get_heap-requires-clause-within : goal.get_heap-requires-clause-within
get_heap-requires-clause-within g c =
    ∥∥₁_elim c.requires.some (hlevel props) (λ z.
    let m = c.args.map in
    let q = z.0 in
    let old = contents m (g.W.Words.words c.args.words.now) in
    let now = c.loop-offset.invariant.rolled q z.1 z.2 in
    let among = among_now m q old (page_words m * c.args.page) c.args.count z.1 z.2 in
    let met : Met m q.laid c.args.page c.loop-offset.offset now.1.place = meets m q.laid old (IsOnRoll q now.0.roll.name c.loop-offset.count) c.args.page c.loop-offset.offset c.get_page-used.result among c.requires.page c.get_page-used.ensures.value now.1 c.loop-offset-test.true in
    let b = met_fits m q.laid old c.args.page c.loop-offset.offset now.1.place among met in
    omega (arith, b, ap (λ w. w * c.args.page) c.page_words.ensures))

pub overflow_add-start-in-loop-offset : goal.overflow_add-start-in-loop-offset
overflow_add-start-in-loop-offset g c =
    ∥∥₁_elim c.requires.some (hlevel props) (λ z.
    let m = c.args.map in
    let q = z.0 in
    let old = contents m (g.W.Words.words c.args.words.now) in
    let now = c.loop-offset.invariant.rolled q z.1 z.2 in
    let among = among_now m q old (page_words m * c.args.page) c.args.count z.1 z.2 in
    let met : Met m q.laid c.args.page c.loop-offset.offset now.1.place = meets m q.laid old (IsOnRoll q now.0.roll.name c.loop-offset.count) c.args.page c.loop-offset.offset c.get_page-used.result among c.requires.page c.get_page-used.ensures.value now.1 c.loop-offset-test.true in
    let b = met_fits m q.laid old c.args.page c.loop-offset.offset now.1.place among met in
    let areas = c.requires.sound.areas in
    omega (arith, b, areas, ap (λ w. w * c.args.page) c.page_words.ensures))

pub overflow_add-offset : goal.overflow_add-offset
overflow_add-offset g c = let most = c.field_count-fields.ensures.most in omega (arith, most)

pub overflow_add-offset-in-loop-offset : goal.overflow_add-offset-in-loop-offset
overflow_add-offset-in-loop-offset g c =
    let most = c.field_count-fields.ensures.most in
    let areas = c.requires.sound.areas in
    ∥∥₁_elim c.requires.some (hlevel props) (λ z.
    let m = c.args.map in
    let old = contents m (g.W.Words.words c.args.words.now) in
    let among = among_now m z.0 old (page_words m * c.args.page) c.args.count z.1 z.2 in
    let fits = used_fits m z.0.laid old c.args.page among c.requires.page in
    omega (arith, most, c.loop-offset.invariant.within, c.get_page-used.ensures.value, fits))

pub roll_object-count-requires-clause-some : goal.roll_object-count-requires-clause-some
roll_object-count-requires-clause-some g c =
    rw c.get_heap.ensures.words (∥∥₁_map c.requires.some (λ z.
    let m = c.args.map in
    let q = z.0 in
    let old = contents m (g.W.Words.words c.args.words.now) in
    let mid = contents m (g.W.Words.words c.loop-offset.words) in
    let now = c.loop-offset.invariant.rolled q z.1 z.2 in
    let among = among_now m q old (page_words m * c.args.page) c.args.count z.1 z.2 in
    let met : Met m q.laid c.args.page c.loop-offset.offset now.1.place = meets m q.laid old (IsOnRoll q now.0.roll.name c.loop-offset.count) c.args.page c.loop-offset.offset c.get_page-used.result among c.requires.page c.get_page-used.ensures.value now.1 c.loop-offset-test.true in
    let at : c.page_words.result * c.args.page + c.loop-offset.offset ≡ page_words m * c.args.page + c.loop-offset.offset = ap (λ w. w * c.args.page + c.loop-offset.offset) c.page_words.ensures in
    (q, z.1, met.name, met.object, met.present, at ∙ met.address, subst (λ b. Rolled q mid b c.loop-offset.count) (sym at) now.0.roll)))

pub loop-offset-init : goal.loop-offset-init
loop-offset-init g c = record {
  sound = rw c.get_page-used.ensures.words c.requires.sound;
  base = c.get_page-used.ensures.base;
  reads = omega (arith, c.get_page-used.ensures.reads);
  frame = rw c.get_page-used.ensures.words refl;
  within = omega arith;
  rolled = λ q ready r.
      let m = c.args.map in
      let old = contents m (g.W.Words.words c.args.words.now) in
      rw c.get_page-used.ensures.words (grows_wider m q old (page_words m * c.args.page) c.args.count (page_words m * c.args.page + 0) c.args.count r.name ready (grows_first q old (page_words m * c.args.page) c.args.count r) (omega arith), walk_begins q.laid (IsOnRoll q r.name c.args.count) c.args.page);
}

pub loop-offset-preserved : goal.loop-offset-preserved
loop-offset-preserved g c = record {
  sound = c.roll_object-count.ensures.sound;
  base = c.roll_object-count.ensures.base ∙ c.get_heap.ensures.base ∙ c.loop-offset.invariant.base;
  reads = omega (arith, c.roll_object-count.ensures.reads, c.get_heap.ensures.reads, c.loop-offset.invariant.reads);
  frame = scratch_then (contents c.args.map (g.W.Words.words c.args.words.now)) (contents c.args.map (g.W.Words.words c.loop-offset.words)) (contents c.args.map (g.W.Words.words c.roll_object-count.new.words)) c.loop-offset.invariant.frame (subst (λ (x : List ℕ). OnlyScratch (contents c.args.map x) (contents c.args.map (g.W.Words.words c.roll_object-count.new.words))) c.get_heap.ensures.words c.roll_object-count.ensures.frame);
  within = ∥∥₁_elim c.requires.some (hlevel props) (λ z.
      let m = c.args.map in
      let q = z.0 in
      let page = c.args.page in
      let offset = c.loop-offset.offset in
      let a : ℕ = c.page_words.result * page + offset in
      let at : a ≡ page_words m * page + offset = ap (λ w. w * page + offset) c.page_words.ensures in
      let old = contents m (g.W.Words.words c.args.words.now) in
      let mid = contents m (g.W.Words.words c.loop-offset.words) in
      let now = c.loop-offset.invariant.rolled q z.1 z.2 in
      let among = among_now m q old (page_words m * page) c.args.count z.1 z.2 in
      let then = among_now m q mid (page_words m * page + offset) c.loop-offset.count z.1 now.0.roll in
      let met : Met m q.laid page offset now.1.place = meets m q.laid old (IsOnRoll q now.0.roll.name c.loop-offset.count) page offset c.get_page-used.result among c.requires.page c.get_page-used.ensures.value now.1 c.loop-offset-test.true in
      let n : c.field_count-fields.result ≡ length met.object.fields = counted m q.laid mid met.name met.object a _ then met.present (at ∙ met.address) (λ f s hf hs e. c.field_count-fields.ensures.fields f s hf hs (c.get_heap.ensures.value ∙ e)) in
      let ends = met_used m q.laid old page offset now.1.place c.get_page-used.result among c.requires.page c.get_page-used.ensures.value met now.1.offset_is in
      omega (arith, ends, n));
  rolled = λ q ready r.
      let m = c.args.map in
      let page = c.args.page in
      let offset = c.loop-offset.offset in
      let a : ℕ = c.page_words.result * page + offset in
      let at : a ≡ page_words m * page + offset = ap (λ w. w * page + offset) c.page_words.ensures in
      let old = contents m (g.W.Words.words c.args.words.now) in
      let mid = contents m (g.W.Words.words c.loop-offset.words) in
      let new = contents m (g.W.Words.words c.roll_object-count.new.words) in
      let now = c.loop-offset.invariant.rolled q ready r in
      let among = among_now m q old (page_words m * page) c.args.count ready r in
      let then = among_now m q mid (page_words m * page + offset) c.loop-offset.count ready now.0.roll in
      let met : Met m q.laid page offset now.1.place = meets m q.laid old (IsOnRoll q now.0.roll.name c.loop-offset.count) page offset c.get_page-used.result among c.requires.page c.get_page-used.ensures.value now.1 c.loop-offset-test.true in
      let n : c.field_count-fields.result ≡ length met.object.fields = counted m q.laid mid met.name met.object a _ then met.present (at ∙ met.address) (λ f s hf hs e. c.field_count-fields.ensures.fields f s hf hs (c.get_heap.ensures.value ∙ e)) in
      let limit : ℕ = page_words m * page + (offset + (c.field_count-fields.result + OBJECT_WORDS)) in
      let same : contents m (g.W.Words.words c.get_heap.new.words) ≡ mid = ap (contents m) c.get_heap.ensures.words in
      let held : ℕ = c.loop-offset.count in
      let more : ℕ = c.roll_object-count.result in
      let size : ℕ = length met.object.fields + OBJECT_WORDS in
      let by_call : (x : Rolled q (contents m (g.W.Words.words c.get_heap.new.words)) a held) → (l : ℕ) → l ≡ a + size → (s : Grows q new l more x.name held) × IsOnRoll q s.roll.name more met.name = c.roll_object-count.ensures.rolled q ready met.name met.object met.present (at ∙ met.address) in
      let by_words : (x : Rolled q mid a held) → (l : ℕ) → l ≡ a + size → (s : Grows q new l more x.name held) × IsOnRoll q s.roll.name more met.name =
      subst (λ y. (x : Rolled q y a held) → (l : ℕ) → l ≡ a + size → (s : Grows q new l more x.name held) × IsOnRoll q s.roll.name more met.name) same by_call in
      let by_place : (x : Rolled q mid (page_words m * page + offset) held) → (l : ℕ) → l ≡ page_words m * page + offset + size → (s : Grows q new l more x.name held) × IsOnRoll q s.roll.name more met.name =
      subst (λ b. (x : Rolled q mid b held) → (l : ℕ) → l ≡ b + size → (s : Grows q new l more x.name held) × IsOnRoll q s.roll.name more met.name) at by_words in
      let next = by_place now.0.roll limit (omega (arith, n)) in
      (grows_then q new limit more held c.args.count r.name now.0.roll.name now.0.more next.0, walk_goes m q.laid (IsOnRoll q now.0.roll.name held) (IsOnRoll q next.0.roll.name more) page offset c.field_count-fields.result now.1 met n next.0.more next.1);
}

pub returns-clause-rolled : goal.returns-clause-rolled
returns-clause-rolled g c q ready r =
    let m = c.args.map in
    let page = c.args.page in
    let old = contents m (g.W.Words.words c.args.words.now) in
    let mid = contents m (g.W.Words.words c.loop-offset.words) in
    let now = c.loop-offset.invariant.rolled q ready r in
    let among = among_now m q old (page_words m * page) c.args.count ready r in
    let fits = used_fits m q.laid old page among c.requires.page in
    (grows_wider m q mid (page_words m * page + c.loop-offset.offset) c.loop-offset.count (page_words m * (page + 1)) c.args.count r.name ready now.0 (omega (arith, fits, c.get_page-used.ensures.value, c.loop-offset.invariant.within)), walk_ends m q.laid old (IsOnRoll q now.0.roll.name c.loop-offset.count) page c.loop-offset.offset c.get_page-used.result among c.requires.page c.get_page-used.ensures.value now.1 c.loop-offset-test.false)

pub returns-clause-reads : goal.returns-clause-reads
returns-clause-reads g c = omega (arith, c.loop-offset.invariant.reads, c.loop-offset.invariant.within, c.get_page-used.ensures.value)

pub returns-clause-frame : goal.returns-clause-frame
returns-clause-frame g c = c.loop-offset.invariant.frame
