use Rattle.std.proofs.Props.{props}
use Rattle.std.proofs.Math.Logic.{∥∥₁_elim, ∥∥₁_map}
use Rattle.std.proofs.Common.{◌≡◌, ◌≤◌, ◌+◌, ◌*◌, ℕ, arith, ap, ◌∙◌, length, subst}
use Rattle.heap_words.specs.Contents.{contents}
use Rattle.mark_compact.specs.Marking.{Marking, GoesOn, IsAliveAt, IsPassed, IsScanned}
use Rattle.mark_compact.proofs.Follows.{stays}
use Rattle.mark_compact.proofs.Scans.{then_on, counted}
use Rattle.heap_words.specs.Map.{page_words}
use Rattle.heap_walks.proofs.Pages.{Met, meets, met_fits, met_used, walk_begins, walk_ends}
use Rattle.mark_compact.proofs.Pages.{met_alive, walk_on}
use Rattle.mark_compact.proofs.marking.mark_page.Goals as goal

pub overflow_add-start : goal.overflow_add-start
overflow_add-start g c =
    ∥∥₁_elim c.requires.some (hlevel props) (λ q.
    let m = c.args.map in
    let old = contents m (g.W.Words.words c.args.words.now) in
    let mid = contents m (g.W.Words.words c.loop-offset.words) in
    let now = c.loop-offset.invariant.marking q.0 q.1 in
    let met : Met m q.0 c.args.page c.loop-offset.offset now.1.place = meets m q.0 old (IsPassed q.0 mid) c.args.page c.loop-offset.offset c.get_page-used.result q.1.among c.requires.page c.get_page-used.ensures.value now.1 c.loop-offset-test.true in
    let b = met_fits m q.0 mid c.args.page c.loop-offset.offset now.1.place now.0.marking.among met in
    let areas = c.requires.sound.areas in
    omega (arith, b, areas, ap (λ w. w * c.args.page) c.page_words.ensures))

pub get_heap-requires-clause-within : goal.get_heap-requires-clause-within
get_heap-requires-clause-within g c =
    ∥∥₁_elim c.requires.some (hlevel props) (λ q.
    let m = c.args.map in
    let old = contents m (g.W.Words.words c.args.words.now) in
    let mid = contents m (g.W.Words.words c.loop-offset.words) in
    let now = c.loop-offset.invariant.marking q.0 q.1 in
    let met : Met m q.0 c.args.page c.loop-offset.offset now.1.place = meets m q.0 old (IsPassed q.0 mid) c.args.page c.loop-offset.offset c.get_page-used.result q.1.among c.requires.page c.get_page-used.ensures.value now.1 c.loop-offset-test.true in
    let b = met_fits m q.0 mid c.args.page c.loop-offset.offset now.1.place now.0.marking.among met in
    let areas = c.requires.sound.areas in
    omega (arith, b, areas, ap (λ w. w * c.args.page) c.page_words.ensures))

pub overflow_add-start-in-loop-offset : goal.overflow_add-start-in-loop-offset
overflow_add-start-in-loop-offset g c =
    ∥∥₁_elim c.requires.some (hlevel props) (λ q.
    let m = c.args.map in
    let old = contents m (g.W.Words.words c.args.words.now) in
    let mid = contents m (g.W.Words.words c.loop-offset.words) in
    let now = c.loop-offset.invariant.marking q.0 q.1 in
    let met : Met m q.0 c.args.page c.loop-offset.offset now.1.place = meets m q.0 old (IsPassed q.0 mid) c.args.page c.loop-offset.offset c.get_page-used.result q.1.among c.requires.page c.get_page-used.ensures.value now.1 c.loop-offset-test.true in
    let b = met_fits m q.0 mid c.args.page c.loop-offset.offset now.1.place now.0.marking.among met in
    let areas = c.requires.sound.areas in
    omega (arith, b, areas, ap (λ w. w * c.args.page) c.page_words.ensures))

pub overflow_add-offset : goal.overflow_add-offset
overflow_add-offset g c =
    ∥∥₁_elim c.requires.some (hlevel props) (λ q.
    let m = c.args.map in
    let old = contents m (g.W.Words.words c.args.words.now) in
    let mid = contents m (g.W.Words.words c.loop-offset.words) in
    let now = c.loop-offset.invariant.marking q.0 q.1 in
    let met : Met m q.0 c.args.page c.loop-offset.offset now.1.place = meets m q.0 old (IsPassed q.0 mid) c.args.page c.loop-offset.offset c.get_page-used.result q.1.among c.requires.page c.get_page-used.ensures.value now.1 c.loop-offset-test.true in
    let b = met_fits m q.0 mid c.args.page c.loop-offset.offset now.1.place now.0.marking.among met in
    let areas = c.requires.sound.areas in
    let n : c.field_count-fields.result ≡ length met.object.fields = counted m q.0 mid c.loop-offset.count (c.page_words.result * c.args.page + c.loop-offset.offset) _ now.0.marking (met_alive m q.0 old c.args.page c.loop-offset.offset now.1.place _ q.1.among c.requires.region (ap (λ w. w * c.args.page + c.loop-offset.offset) c.page_words.ensures) met) (λ f s hf hs e. c.field_count-fields.ensures.fields f s hf hs (c.get_heap.ensures.value ∙ e)) in
    omega (arith, b, n, areas, ap (λ w. w * c.args.page) c.page_words.ensures))

pub overflow_add-offset-in-loop-offset : goal.overflow_add-offset-in-loop-offset
overflow_add-offset-in-loop-offset g c =
    ∥∥₁_elim c.requires.some (hlevel props) (λ q.
    let m = c.args.map in
    let old = contents m (g.W.Words.words c.args.words.now) in
    let mid = contents m (g.W.Words.words c.loop-offset.words) in
    let now = c.loop-offset.invariant.marking q.0 q.1 in
    let met : Met m q.0 c.args.page c.loop-offset.offset now.1.place = meets m q.0 old (IsPassed q.0 mid) c.args.page c.loop-offset.offset c.get_page-used.result q.1.among c.requires.page c.get_page-used.ensures.value now.1 c.loop-offset-test.true in
    let b = met_fits m q.0 mid c.args.page c.loop-offset.offset now.1.place now.0.marking.among met in
    let areas = c.requires.sound.areas in
    let n : c.field_count-fields.result ≡ length met.object.fields = counted m q.0 mid c.loop-offset.count (c.page_words.result * c.args.page + c.loop-offset.offset) _ now.0.marking (met_alive m q.0 old c.args.page c.loop-offset.offset now.1.place _ q.1.among c.requires.region (ap (λ w. w * c.args.page + c.loop-offset.offset) c.page_words.ensures) met) (λ f s hf hs e. c.field_count-fields.ensures.fields f s hf hs (c.get_heap.ensures.value ∙ e)) in
    omega (arith, b, n, areas, ap (λ w. w * c.args.page) c.page_words.ensures))

pub scan_object-count-requires-clause-some : goal.scan_object-count-requires-clause-some
scan_object-count-requires-clause-some g c =
    rw c.get_heap.ensures.words (∥∥₁_map c.requires.some (λ q.
    let m = c.args.map in
    let old = contents m (g.W.Words.words c.args.words.now) in
    let mid = contents m (g.W.Words.words c.loop-offset.words) in
    let now = c.loop-offset.invariant.marking q.0 q.1 in
    let met : Met m q.0 c.args.page c.loop-offset.offset now.1.place = meets m q.0 old (IsPassed q.0 mid) c.args.page c.loop-offset.offset c.get_page-used.result q.1.among c.requires.page c.get_page-used.ensures.value now.1 c.loop-offset-test.true in
    (q.0, now.0.marking, met_alive m q.0 old c.args.page c.loop-offset.offset now.1.place _ q.1.among c.requires.region (ap (λ w. w * c.args.page + c.loop-offset.offset) c.page_words.ensures) met)))

pub loop-offset-init : goal.loop-offset-init
loop-offset-init g c = record {
  sound = rw c.get_page-used.ensures.words c.requires.sound;
  base = c.get_page-used.ensures.base;
  reads = omega (arith, c.get_page-used.ensures.reads);
  within = omega arith;
  marking = λ h mk. rw c.get_page-used.ensures.words (stays _ h _ _ mk, walk_begins h (IsPassed h (contents c.args.map (g.W.Words.words c.args.words.now))) c.args.page);
}

pub loop-offset-preserved : goal.loop-offset-preserved
loop-offset-preserved g c = record {
  sound = c.scan_object-count.ensures.sound;
  base = c.scan_object-count.ensures.base ∙ c.get_heap.ensures.base ∙ c.loop-offset.invariant.base;
  reads = ∥∥₁_elim c.requires.some (hlevel props) (λ q.
      let m = c.args.map in
      let page = c.args.page in
      let offset = c.loop-offset.offset in
      let a : ℕ = c.page_words.result * page + offset in
      let at : a ≡ page_words m * page + offset = ap (λ w. w * page + offset) c.page_words.ensures in
      let old = contents m (g.W.Words.words c.args.words.now) in
      let mid = contents m (g.W.Words.words c.loop-offset.words) in
      let now = c.loop-offset.invariant.marking q.0 q.1 in
      let met : Met m q.0 page offset now.1.place = meets m q.0 old (IsPassed q.0 mid) page offset c.get_page-used.result q.1.among c.requires.page c.get_page-used.ensures.value now.1 c.loop-offset-test.true in
      let alive : IsAliveAt q.0 a = met_alive m q.0 old page offset now.1.place a q.1.among c.requires.region at met in
      let n : c.field_count-fields.result ≡ length met.object.fields = counted m q.0 mid c.loop-offset.count a _ now.0.marking alive (λ f s hf hs e. c.field_count-fields.ensures.fields f s hf hs (c.get_heap.ensures.value ∙ e)) in
      let same : contents m (g.W.Words.words c.get_heap.new.words) ≡ mid = ap (contents m) c.get_heap.ensures.words in
      let scan : g.W.Words.reads c.scan_object-count.new.words ≤ g.W.Words.reads c.get_heap.new.words + (1 + 3 * length met.object.fields) =
      subst (λ x. Marking m q.0 x c.loop-offset.count → (at : IsAliveAt q.0 a) → g.W.Words.reads c.scan_object-count.new.words ≤ g.W.Words.reads c.get_heap.new.words + (1 + 3 * length at.object.fields)) same (c.scan_object-count.ensures.reads q.0) now.0.marking alive in
      omega (arith, scan, n, c.get_heap.ensures.reads, c.loop-offset.invariant.reads));
  within = ∥∥₁_elim c.requires.some (hlevel props) (λ q.
      let m = c.args.map in
      let page = c.args.page in
      let offset = c.loop-offset.offset in
      let a : ℕ = c.page_words.result * page + offset in
      let at : a ≡ page_words m * page + offset = ap (λ w. w * page + offset) c.page_words.ensures in
      let old = contents m (g.W.Words.words c.args.words.now) in
      let mid = contents m (g.W.Words.words c.loop-offset.words) in
      let now = c.loop-offset.invariant.marking q.0 q.1 in
      let met : Met m q.0 page offset now.1.place = meets m q.0 old (IsPassed q.0 mid) page offset c.get_page-used.result q.1.among c.requires.page c.get_page-used.ensures.value now.1 c.loop-offset-test.true in
      let alive : IsAliveAt q.0 a = met_alive m q.0 old page offset now.1.place a q.1.among c.requires.region at met in
      let n : c.field_count-fields.result ≡ length met.object.fields = counted m q.0 mid c.loop-offset.count a _ now.0.marking alive (λ f s hf hs e. c.field_count-fields.ensures.fields f s hf hs (c.get_heap.ensures.value ∙ e)) in
      let ends = met_used m q.0 old page offset now.1.place c.get_page-used.result q.1.among c.requires.page c.get_page-used.ensures.value met now.1.offset_is in
      omega (arith, ends, n));
  marking = λ h mk.
      let m = c.args.map in
      let page = c.args.page in
      let offset = c.loop-offset.offset in
      let a : ℕ = c.page_words.result * page + offset in
      let at : a ≡ page_words m * page + offset = ap (λ w. w * page + offset) c.page_words.ensures in
      let old = contents m (g.W.Words.words c.args.words.now) in
      let mid = contents m (g.W.Words.words c.loop-offset.words) in
      let new = contents m (g.W.Words.words c.scan_object-count.new.words) in
      let now = c.loop-offset.invariant.marking h mk in
      let met : Met m h page offset now.1.place = meets m h old (IsPassed h mid) page offset c.get_page-used.result mk.among c.requires.page c.get_page-used.ensures.value now.1 c.loop-offset-test.true in
      let alive : IsAliveAt h a = met_alive m h old page offset now.1.place a mk.among c.requires.region at met in
      let n : c.field_count-fields.result ≡ length met.object.fields = counted m h mid c.loop-offset.count a _ now.0.marking alive (λ f s hf hs e. c.field_count-fields.ensures.fields f s hf hs (c.get_heap.ensures.value ∙ e)) in
      let same : contents m (g.W.Words.words c.get_heap.new.words) ≡ mid = ap (contents m) c.get_heap.ensures.words in
      let next : GoesOn m h mid c.loop-offset.count new c.scan_object-count.result × IsScanned h new a =
      subst (λ x. Marking m h x c.loop-offset.count → IsAliveAt h a → GoesOn m h x c.loop-offset.count new c.scan_object-count.result × IsScanned h new a) same (c.scan_object-count.ensures.marking h) now.0.marking alive in
      (then_on m h old mid new c.args.count c.loop-offset.count c.scan_object-count.result now.0 next.0, walk_on m h mid new _ _ page offset c.field_count-fields.result a now.1 met n next.0.grows at next.1);
}

pub returns-clause-marking : goal.returns-clause-marking
returns-clause-marking g c h mk =
    let m = c.args.map in
    let old = contents m (g.W.Words.words c.args.words.now) in
    let now = c.loop-offset.invariant.marking h mk in
    (now.0, walk_ends m h old (IsPassed h (contents m (g.W.Words.words c.loop-offset.words))) c.args.page c.loop-offset.offset c.get_page-used.result mk.among c.requires.page c.get_page-used.ensures.value now.1 c.loop-offset-test.false)

pub returns-clause-reads : goal.returns-clause-reads
returns-clause-reads g c = omega (arith, c.loop-offset.invariant.reads, c.loop-offset.invariant.within, c.get_page-used.ensures.value)
