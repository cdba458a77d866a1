use Rattle.std.proofs.Props.{props}
use Rattle.std.proofs.Math.Logic.{∥∥₁_elim}
use Rattle.std.proofs.Common.{◌≡◌, ◌+◌, ◌*◌, ℕ, List, arith, ap, ◌∙◌, length}
use Rattle.heap_words.specs.Map.{page_words}
use Rattle.heap_words.specs.Contents.{contents, with_heap}
use Rattle.heap_walks.proofs.Objects.{counted}
use Rattle.heap_walks.proofs.Pages.{Met, meets, met_fits, met_used, used_fits, walk_begins, walk_ends, walk_goes}
use Rattle.relocation.proofs.Heap.{only_heap-same, only_heap-step, only_heap-then}
use Rattle.escape_closure.specs.Cleared.{ClearsOn, IsClear}
use Rattle.escape_closure.proofs.Clears.{clear_now, clears_none, clears_one, clears_then}
use Rattle.escape_closure.proofs.clearing.clear_page.Goals as goal

pub overflow_add-start : goal.overflow_add-start
overflow_add-start g c =
    ∥∥₁_elim c.requires.some (hlevel props) (λ z.
    let m = c.args.map in
    let old = contents m (g.W.Words.words c.args.words.now) in
    let mid = contents m (g.W.Words.words c.loop-offset.words) in
    let now = c.loop-offset.invariant.cleared z.0 z.1 in
    let met : Met m z.0 c.args.page c.loop-offset.offset now.1.place = meets m z.0 old (IsClear z.0 mid) c.args.page c.loop-offset.offset c.get_page-used.result z.1 c.requires.page c.get_page-used.ensures.value now.1 c.loop-offset-test.true in
    let b = met_fits m z.0 old c.args.page c.loop-offset.offset now.1.place z.1 met in
    omega (arith, b, c.requires.sound.areas, ap (λ w. w * c.args.page) c.page_words.ensures))

pub get_heap-requires-clause-within : goal.get_heap-requires-clause-within
get_heap-requires-clause-within g c =
    ∥∥₁_elim c.requires.some (hlevel props) (λ z.
    let m = c.args.map in
    let old = contents m (g.W.Words.words c.args.words.now) in
    let mid = contents m (g.W.Words.words c.loop-offset.words) in
    let now = c.loop-offset.invariant.cleared z.0 z.1 in
    let met : Met m z.0 c.args.page c.loop-offset.offset now.1.place = meets m z.0 old (IsClear z.0 mid) c.args.page c.loop-offset.offset c.get_page-used.result z.1 c.requires.page c.get_page-used.ensures.value now.1 c.loop-offset-test.true in
    let b = met_fits m z.0 old c.args.page c.loop-offset.offset now.1.place z.1 met in
    omega (arith, b, ap (λ w. w * c.args.page) c.page_words.ensures))

pub set_heap-requires-clause-within : goal.set_heap-requires-clause-within
set_heap-requires-clause-within g c =
    ∥∥₁_elim c.requires.some (hlevel props) (λ z.
    let m = c.args.map in
    let old = contents m (g.W.Words.words c.args.words.now) in
    let mid = contents m (g.W.Words.words c.loop-offset.words) in
    let now = c.loop-offset.invariant.cleared z.0 z.1 in
    let met : Met m z.0 c.args.page c.loop-offset.offset now.1.place = meets m z.0 old (IsClear z.0 mid) c.args.page c.loop-offset.offset c.get_page-used.result z.1 c.requires.page c.get_page-used.ensures.value now.1 c.loop-offset-test.true in
    let b = met_fits m z.0 old c.args.page c.loop-offset.offset now.1.place z.1 met in
    omega (arith, b, ap (λ w. w * c.args.page) c.page_words.ensures))

pub overflow_add-start-in-loop-offset : goal.overflow_add-start-in-loop-offset
overflow_add-start-in-loop-offset g c =
    ∥∥₁_elim c.requires.some (hlevel props) (λ z.
    let m = c.args.map in
    let old = contents m (g.W.Words.words c.args.words.now) in
    let mid = contents m (g.W.Words.words c.loop-offset.words) in
    let now = c.loop-offset.invariant.cleared z.0 z.1 in
    let met : Met m z.0 c.args.page c.loop-offset.offset now.1.place = meets m z.0 old (IsClear z.0 mid) c.args.page c.loop-offset.offset c.get_page-used.result z.1 c.requires.page c.get_page-used.ensures.value now.1 c.loop-offset-test.true in
    let b = met_fits m z.0 old c.args.page c.loop-offset.offset now.1.place z.1 met in
    omega (arith, b, c.requires.sound.areas, ap (λ w. w * c.args.page) c.page_words.ensures))

pub overflow_add-start-in-loop-offset-2 : goal.overflow_add-start-in-loop-offset-2
overflow_add-start-in-loop-offset-2 g c =
    ∥∥₁_elim c.requires.some (hlevel props) (λ z.
    let m = c.args.map in
    let old = contents m (g.W.Words.words c.args.words.now) in
    let mid = contents m (g.W.Words.words c.loop-offset.words) in
    let now = c.loop-offset.invariant.cleared z.0 z.1 in
    let met : Met m z.0 c.args.page c.loop-offset.offset now.1.place = meets m z.0 old (IsClear z.0 mid) c.args.page c.loop-offset.offset c.get_page-used.result z.1 c.requires.page c.get_page-used.ensures.value now.1 c.loop-offset-test.true in
    let b = met_fits m z.0 old c.args.page c.loop-offset.offset now.1.place z.1 met in
    omega (arith, b, c.requires.sound.areas, ap (λ w. w * c.args.page) c.page_words.ensures))

pub overflow_add-offset-in-loop-offset : goal.overflow_add-offset-in-loop-offset
overflow_add-offset-in-loop-offset g c =
    let most = c.field_count-fields.ensures.most in
    ∥∥₁_elim c.requires.some (hlevel props) (λ z.
    let m = c.args.map in
    let old = contents m (g.W.Words.words c.args.words.now) in
    let fits = used_fits m z.0 old c.args.page z.1 c.requires.page in
    omega (arith, most, c.loop-offset.invariant.within, c.get_page-used.ensures.value, fits))

pub loop-offset-init : goal.loop-offset-init
loop-offset-init g c = record {
  sound = rw c.get_page-used.ensures.words c.requires.sound;
  base = c.get_page-used.ensures.base;
  reads = omega (arith, c.get_page-used.ensures.reads);
  only_heap = rw c.get_page-used.ensures.words (only_heap-same c.args.map (g.W.Words.words c.args.words.now));
  within = omega arith;
  cleared = λ h among. rw c.get_page-used.ensures.words (clears_none c.args.map h _ among, walk_begins h (IsClear h (contents c.args.map (g.W.Words.words c.args.words.now))) c.args.page);
}

pub loop-offset-preserved : goal.loop-offset-preserved
loop-offset-preserved g c =
    let m = c.args.map in
    let page = c.args.page in
    let offset = c.loop-offset.offset in
    let was = g.W.Words.words c.args.words.now in
    let now_ = g.W.Words.words c.loop-offset.words in
    let read = g.W.Words.words c.get_heap.new.words in
    let next = g.W.Words.words c.set_heap.new.words in
    let old = contents m was in
    let mid = contents m now_ in
    let new = contents m next in
    let a : ℕ = c.page_words.result * page + offset in
    let at : a ≡ page_words m * page + offset = ap (λ w. w * page + offset) c.page_words.ensures in
    let made : new ≡ with_heap mid (a + 2) 0 = c.set_heap.ensures.set ∙ ap (λ (x : List ℕ). with_heap (contents m x) (a + 2) 0) c.get_heap.ensures.words in
    record {
      sound = c.set_heap.ensures.sound;
      base = c.set_heap.ensures.base ∙ c.get_heap.ensures.base ∙ c.loop-offset.invariant.base;
      reads = omega (arith, c.set_heap.ensures.reads, c.get_heap.ensures.reads, c.loop-offset.invariant.reads);
      only_heap = only_heap-then m was now_ next c.loop-offset.invariant.only_heap (only_heap-step m now_ read next (a + 2) 0 c.get_heap.ensures.words c.set_heap.ensures.set);
      within = ∥∥₁_elim c.requires.some (hlevel props) (λ z.
          let now = c.loop-offset.invariant.cleared z.0 z.1 in
          let met : Met m z.0 page offset now.1.place = meets m z.0 old (IsClear z.0 mid) page offset c.get_page-used.result z.1 c.requires.page c.get_page-used.ensures.value now.1 c.loop-offset-test.true in
          let n : c.field_count-fields.result ≡ length met.object.fields = counted m z.0 mid met.name met.object a _ now.0.among met.present (at ∙ met.address) (λ f s hf hs e. c.field_count-fields.ensures.fields f s hf hs (c.get_heap.ensures.value ∙ e)) in
          let ends = met_used m z.0 old page offset now.1.place c.get_page-used.result z.1 c.requires.page c.get_page-used.ensures.value met now.1.offset_is in
          omega (arith, ends, n));
      cleared = λ h among.
          let now = c.loop-offset.invariant.cleared h among in
          let met : Met m h page offset now.1.place = meets m h old (IsClear h mid) page offset c.get_page-used.result among c.requires.page c.get_page-used.ensures.value now.1 c.loop-offset-test.true in
          let n : c.field_count-fields.result ≡ length met.object.fields = counted m h mid met.name met.object a _ now.0.among met.present (at ∙ met.address) (λ f s hf hs e. c.field_count-fields.ensures.fields f s hf hs (c.get_heap.ensures.value ∙ e)) in
          let there : a + 2 ≡ h.places.at met.name + 2 = ap (λ i. i + 2) (at ∙ met.address) in
          let one : ClearsOn m h mid new = clears_one m h mid new met.name met.object (a + 2) now.0.among met.present there made in
          (clears_then m h old mid new now.0 one, walk_goes m h (IsClear h mid) (IsClear h new) page offset c.field_count-fields.result now.1 met n one.still (clear_now m h mid new met.name met.object (a + 2) now.0.among met.present there made));
    }

pub returns-clause-cleared : goal.returns-clause-cleared
returns-clause-cleared g c h among =
    let m = c.args.map in
    let page = c.args.page in
    let old = contents m (g.W.Words.words c.args.words.now) in
    let mid = contents m (g.W.Words.words c.loop-offset.words) in
    let now = c.loop-offset.invariant.cleared h among in
    (now.0, walk_ends m h old (IsClear h mid) page c.loop-offset.offset c.get_page-used.result among c.requires.page c.get_page-used.ensures.value now.1 c.loop-offset-test.false)

pub returns-clause-reads : goal.returns-clause-reads
returns-clause-reads g c = omega (arith, c.loop-offset.invariant.reads, c.loop-offset.invariant.within, c.get_page-used.ensures.value)
