use Rattle.std.proofs.Props.{props}
use Rattle.std.proofs.Math.Logic.{∥∥₁_elim, ∥∥₁_map}
use Rattle.std.proofs.Common.{◌≡◌, ◌≤◌, ◌+◌, arith, ap, ◌∙◌, refl, sym, subst, get_or, length, ◌*◌}
use Rattle.heap_words.specs.Contents.{contents}
use Rattle.mark_compact.specs.Marking.{Marking, GoesOn, IsAliveAt, IsScanned}
use Rattle.mark_compact.proofs.Follows.{stays}
use Rattle.mark_compact.proofs.Scans.{then_on}
use Rattle.mark_compact.proofs.Costs.{all_left, nothing_spent, spent_more}
use Rattle.mark_compact.proofs.Pages.{listed_alive, listed_more}
use Rattle.mark_compact.proofs.marking.drain.Goals as goal

pub scan_object-count-requires-clause-some : goal.scan_object-count-requires-clause-some
scan_object-count-requires-clause-some g c =
    rw c.get_scratch-a.ensures.words (∥∥₁_map c.requires.some (λ q.
    let now = c.loop-next.invariant.marking q.0 q.1 in
    (q.0, now.0.marking, subst (IsAliveAt q.0) (sym c.get_scratch-a.ensures.value) (listed_alive _ q.0 _ _ c.loop-next.next now.0.marking c.loop-next-test.true))))

pub loop-next-init : goal.loop-next-init
loop-next-init g c = record {
  sound = c.requires.sound;
  base = refl;
  spent = λ h mk. nothing_spent h (contents c.args.map (g.W.Words.words c.args.words.now)) (g.W.Words.reads c.args.words.now);
  reached = omega arith;
  fits = ∥∥₁_elim c.requires.some (hlevel props) (λ q. q.1.fits);
  marking = λ h mk. (stays _ h _ _ mk, λ j lt. absurd (omega (arith, lt)));
}

pub loop-next-preserved : goal.loop-next-preserved
loop-next-preserved g c = record {
  sound = c.scan_object-count.ensures.sound;
  base = c.scan_object-count.ensures.base ∙ c.get_scratch-a.ensures.base ∙ c.loop-next.invariant.base;
  reached = ∥∥₁_elim c.requires.some (hlevel props) (λ q.
      let m = c.args.map in
      let a = c.get_scratch-a.result in
      let mid = contents m (g.W.Words.words c.loop-next.words) in
      let new = contents m (g.W.Words.words c.scan_object-count.new.words) in
      let now = c.loop-next.invariant.marking q.0 q.1 in
      let alive : IsAliveAt q.0 a = subst (IsAliveAt q.0) (sym c.get_scratch-a.ensures.value) (listed_alive _ q.0 _ _ c.loop-next.next now.0.marking c.loop-next-test.true) in
      let same : contents m (g.W.Words.words c.get_scratch-a.new.words) ≡ mid = ap (contents m) c.get_scratch-a.ensures.words in
      let next : GoesOn m q.0 mid c.loop-next.count new c.scan_object-count.result × IsScanned q.0 new a =
      subst (λ x. Marking m q.0 x c.loop-next.count → IsAliveAt q.0 a → GoesOn m q.0 x c.loop-next.count new c.scan_object-count.result × IsScanned q.0 new a) same (c.scan_object-count.ensures.marking q.0) now.0.marking alive in
      let longer = next.0.grows.longer in
      omega (arith, longer, c.loop-next-test.true));
  fits = ∥∥₁_elim c.requires.some (hlevel props) (λ q.
      let m = c.args.map in
      let a = c.get_scratch-a.result in
      let mid = contents m (g.W.Words.words c.loop-next.words) in
      let new = contents m (g.W.Words.words c.scan_object-count.new.words) in
      let now = c.loop-next.invariant.marking q.0 q.1 in
      let alive : IsAliveAt q.0 a = subst (IsAliveAt q.0) (sym c.get_scratch-a.ensures.value) (listed_alive _ q.0 _ _ c.loop-next.next now.0.marking c.loop-next-test.true) in
      let same : contents m (g.W.Words.words c.get_scratch-a.new.words) ≡ mid = ap (contents m) c.get_scratch-a.ensures.words in
      let next : GoesOn m q.0 mid c.loop-next.count new c.scan_object-count.result × IsScanned q.0 new a =
      subst (λ x. Marking m q.0 x c.loop-next.count → IsAliveAt q.0 a → GoesOn m q.0 x c.loop-next.count new c.scan_object-count.result × IsScanned q.0 new a) same (c.scan_object-count.ensures.marking q.0) now.0.marking alive in
      next.0.marking.fits);
  spent = λ h mk.
      let m = c.args.map in
      let a = c.get_scratch-a.result in
      let mid = contents m (g.W.Words.words c.loop-next.words) in
      let new = contents m (g.W.Words.words c.scan_object-count.new.words) in
      let now = c.loop-next.invariant.marking h mk in
      let listed : IsAliveAt h (get_or mid.scratch c.loop-next.next 0) = listed_alive _ h _ _ c.loop-next.next now.0.marking c.loop-next-test.true in
      let alive : IsAliveAt h a = subst (IsAliveAt h) (sym c.get_scratch-a.ensures.value) listed in
      let same : contents m (g.W.Words.words c.get_scratch-a.new.words) ≡ mid = ap (contents m) c.get_scratch-a.ensures.words in
      let next : GoesOn m h mid c.loop-next.count new c.scan_object-count.result × IsScanned h new a =
      subst (λ x. Marking m h x c.loop-next.count → IsAliveAt h a → GoesOn m h x c.loop-next.count new c.scan_object-count.result × IsScanned h new a) same (c.scan_object-count.ensures.marking h) now.0.marking alive in
      let scan : g.W.Words.reads c.scan_object-count.new.words ≤ g.W.Words.reads c.get_scratch-a.new.words + (1 + 3 * length alive.object.fields) =
      subst (λ x. Marking m h x c.loop-next.count → (at : IsAliveAt h a) → g.W.Words.reads c.scan_object-count.new.words ≤ g.W.Words.reads c.get_scratch-a.new.words + (1 + 3 * length at.object.fields)) same (c.scan_object-count.ensures.reads h) now.0.marking alive in
      spent_more m h mid new c.loop-next.count c.scan_object-count.result c.loop-next.next a _ _ _ now.0.marking next.0 c.loop-next-test.true c.get_scratch-a.ensures.value alive (c.loop-next.invariant.spent h mk) (omega (arith, scan, c.get_scratch-a.ensures.reads));
  marking = λ h mk.
      let m = c.args.map in
      let a = c.get_scratch-a.result in
      let mid = contents m (g.W.Words.words c.loop-next.words) in
      let new = contents m (g.W.Words.words c.scan_object-count.new.words) in
      let now = c.loop-next.invariant.marking h mk in
      let alive : IsAliveAt h a = subst (IsAliveAt h) (sym c.get_scratch-a.ensures.value) (listed_alive _ h _ _ c.loop-next.next now.0.marking c.loop-next-test.true) in
      let same : contents m (g.W.Words.words c.get_scratch-a.new.words) ≡ mid = ap (contents m) c.get_scratch-a.ensures.words in
      let next : GoesOn m h mid c.loop-next.count new c.scan_object-count.result × IsScanned h new a =
      subst (λ x. Marking m h x c.loop-next.count → IsAliveAt h a → GoesOn m h x c.loop-next.count new c.scan_object-count.result × IsScanned h new a) same (c.scan_object-count.ensures.marking h) now.0.marking alive in
      let old = contents m (g.W.Words.words c.args.words.now) in
      (then_on m h old mid new c.args.count c.loop-next.count c.scan_object-count.result now.0 next.0, listed_more m h mid new c.loop-next.count c.scan_object-count.result c.loop-next.next next.0 c.loop-next-test.true now.1 (subst (IsScanned h new) c.get_scratch-a.ensures.value next.1));
}

pub returns-clause-marking : goal.returns-clause-marking
returns-clause-marking g c h mk =
    let now = c.loop-next.invariant.marking h mk in
    (now.0, λ p lt. now.1 p (omega arith))

pub returns-clause-reads : goal.returns-clause-reads
returns-clause-reads g c =
    ∥∥₁_elim c.requires.some (hlevel props) (λ q.
    let spent = (c.loop-next.invariant.spent q.0 q.1).reads in
    let all = all_left c.args.map q.0 (contents c.args.map (g.W.Words.words c.args.words.now)) q.1.among in
    omega (arith, spent, all))
