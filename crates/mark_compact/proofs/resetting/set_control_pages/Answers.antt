use Rattle.std.proofs.Common.{◌≡◌, ℕ, ◌+◌, ◌-◌, ◌<◌, length, ap, sym, ◌∙◌, arith}
use Rattle.heap_words.specs.Cells.{row}
use Rattle.heap_words.specs.Contents.{contents}
use Rattle.region_pages.proofs.Shapes.{shape}
use Rattle.mark_compact.proofs.Currents.{control_pages-more}
use Rattle.mark_compact.proofs.resetting.set_control_pages.Goals as goal

pub loop-t-preserved : goal.loop-t-preserved
loop-t-preserved g c =
    let m = c.args.map in
    let was = contents m (g.W.Words.words c.args.words.now) in
    let now = contents m (g.W.Words.words c.loop-t.words) in
    let next = contents m (g.W.Words.words c.set_current.new.words) in
    let t : ℕ = c.loop-t.t in
    let inv = c.loop-t.invariant in
    let sh = shape m (g.W.Words.words c.loop-t.words) inv.sound in
    let lt : t < m.threads = c.loop-t-test.true in
    let place : t + 1 - 1 ≡ t = omega arith in
    let slots : length (row now.currents t) ≡ length (row now.currents (t + 1 - 1)) = ap (λ i. length (row now.currents i)) (sym place) in
    let some = sh.slots (t + 1) (omega arith, omega (arith, lt)) in
    record {
      pages = control_pages-more was now next c.args.thread c.args.page t c.page_for-current.result c.requires.thread.0 (omega (arith, lt, sh.currents)) (omega (arith, slots, some)) inv.pages c.set_current.ensures.set c.page_for-current.ensures.own c.page_for-current.ensures.others;
      sound = c.set_current.ensures.sound;
      base = c.set_current.ensures.base ∙ inv.base;
    }
