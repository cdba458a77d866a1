use Rattle.std.proofs.Common.{◌≡◌, ◌≤◌, ◌<◌, ◌+◌, ◌*◌, arith, subst, sym, ap, ◌∙◌, List, ℕ}
use Rattle.heap_words.specs.Map.{page_words}
use Rattle.heap_words.specs.Contents.{Contents, Sound, contents}
use Rattle.relocation.specs.Moves.{scratch_of}
use Rattle.yak_model.specs.Placed.{used_mark}
use Rattle.relocation.specs.Moves.{size_at, move_at}
use Rattle.relocation.specs.Slide.{IsPageOf, behind, Runs, IsObject, Sliding}
use Rattle.relocation.proofs.SlidObjects.{behind-first, behind-next, behind-le, before-end}
use Rattle.relocation.proofs.Slid.{reached, same_table, slide-on, page-done}
use Rattle.relocation.proofs.slides.plan_page.Goals as goal

pub loop-a-init : goal.loop-a-init
loop-a-init g c =
    let m = c.args.map in
    record {
      sliding = λ was runs s control. subst (λ i. Sliding m c.args.slid was runs (contents m (g.W.Words.words c.get_page.new.words)) c.args.plan.now.count (move_at (scratch_of m (g.W.Words.words c.get_page.new.words))) c.args.cursor.now.next c.args.cursor.now.room i) (sym c.page_start-start.ensures) (subst (λ (ws : List ℕ). Sliding m c.args.slid was runs (contents m ws) c.args.plan.now.count (move_at (scratch_of m ws)) c.args.cursor.now.next c.args.cursor.now.room (page_words m * c.args.page)) (sym c.get_page.ensures.words) s);
      reached = λ was runs s h control. (0, (let le : 0 ≤ (runs c.args.page h control).objects = omega arith in le), c.page_start-start.ensures ∙ sym (behind-first was.heap (page_words m * c.args.page)));
      sound = subst (Sound m) (sym c.get_page.ensures.words) c.requires.sound;
      base = c.get_page.ensures.base;
    }

pub plan_object-requires-clause-sliding : goal.plan_object-requires-clause-sliding
plan_object-requires-clause-sliding g c =
    let m = c.args.map in
    let q = c.requires.sliding in
    let was = q.0 in
    let inv = c.loop-a.invariant in
    let j = inv.reached was q.1 q.2 c.requires.page q.3 in
    let mark : c.get_page.result ≡ used_mark was.table c.args.page = c.get_page.ensures.value ∙ ap (λ (t : List (List ℕ)). used_mark t c.args.page) (same_table m c.args.slid was q.1 _ _ _ _ _ _ q.2) in
    let before : c.loop-a.a < page_words m * c.args.page + used_mark was.table c.args.page = omega (arith, mark, c.page_start-start.ensures) in
    (was, q.1, inv.sliding was q.1 q.2 q.3, (c.args.page, j.0, c.requires.page, q.3, before-end m c.args.slid was q.1 c.args.page c.requires.page q.3 j.0 c.loop-a.a j.1 j.2 before, j.2))

pub loop-a-smaller : goal.loop-a-smaller
loop-a-smaller g c =
    let three : 3 ≤ c.plan_object.result = omega (arith, c.plan_object.ensures.size) in
    omega arith

pub loop-a-preserved : goal.loop-a-preserved
loop-a-preserved g c =
    let m = c.args.map in
    let inv = c.loop-a.invariant in
    let last = λ (was : Contents) (runs : Runs m c.args.slid was) (s : Sliding m c.args.slid was runs (contents m (g.W.Words.words c.args.words.now)) c.args.plan.now.count (move_at (scratch_of m (g.W.Words.words c.args.words.now))) c.args.cursor.now.next c.args.cursor.now.room (page_words m * c.args.page)) (h : c.args.page < m.pages) (control : IsPageOf c.args.slid was.table c.args.page).
    (let j = inv.reached was runs s h control in
    let mark : c.get_page.result ≡ used_mark was.table c.args.page = c.get_page.ensures.value ∙ ap (λ (t : List (List ℕ)). used_mark t c.args.page) (same_table m c.args.slid was runs _ _ _ _ _ _ s) in
    let before : c.loop-a.a < page_words m * c.args.page + used_mark was.table c.args.page = omega (arith, mark, c.page_start-start.ensures) in
    before-end m c.args.slid was runs c.args.page h control j.0 c.loop-a.a j.1 j.2 before)
    in
    record {
      sliding = λ was runs s control. c.plan_object.ensures.sliding was runs (inv.sliding was runs s control) (c.args.page, (inv.reached was runs s c.requires.page control).0, c.requires.page, control, last was runs s c.requires.page control, (inv.reached was runs s c.requires.page control).2);
      reached = λ was runs s h control.
          let j = inv.reached was runs s h control in
          let lt : j.0 < (runs c.args.page h control).objects = last was runs s h control in
          let o : IsObject m c.args.slid was runs c.loop-a.a = (c.args.page, j.0, h, control, lt, j.2) in
          let r = reached m c.args.slid was runs _ _ _ _ _ _ (inv.sliding was runs s control) o in
          let size : c.plan_object.result ≡ size_at was.heap (behind was.heap (page_words m * c.args.page) j.0) = c.plan_object.ensures.size ∙ r.size ∙ ap (size_at was.heap) j.2 in
          let next : behind was.heap (page_words m * c.args.page) (j.0 + 1) ≡ behind was.heap (page_words m * c.args.page) j.0 + size_at was.heap (behind was.heap (page_words m * c.args.page) j.0) = behind-next was.heap (page_words m * c.args.page) j.0 in
          (j.0 + 1, (let le : j.0 + 1 ≤ (runs c.args.page h control).objects = omega (arith, lt) in le), (let e : c.loop-a.a + c.plan_object.result ≡ behind was.heap (page_words m * c.args.page) (j.0 + 1) = omega (arith, size, next, j.2) in e));
      sound = c.plan_object.ensures.sound;
      base = c.plan_object.ensures.base ∙ inv.base;
    }

pub returns-clause-sliding : goal.returns-clause-sliding
returns-clause-sliding g c was runs s control =
    let m = c.args.map in
    let h = c.requires.page in
    let page = c.args.page in
    let inv = c.loop-a.invariant in
    let j = inv.reached was runs s h control in
    let run = runs page h control in
    let mark : c.get_page.result ≡ used_mark was.table page = c.get_page.ensures.value ∙ ap (λ (t : List (List ℕ)). used_mark t page) (same_table m c.args.slid was runs _ _ _ _ _ _ s) in
    let le : behind was.heap (page_words m * page) j.0 ≤ behind was.heap (page_words m * page) run.objects = behind-le was.heap (page_words m * page) j.0 run.objects j.1 in
    slide-on m c.args.slid was runs _ _ _ _ _ c.loop-a.a (page_words m * (page + 1)) (inv.sliding was runs s control) (omega (arith, le, run.ends, run.fits, j.2)) (omega arith)
    (λ x o low high. page-done m c.args.slid was runs page h control x o (omega (arith, mark, c.page_start-start.ensures)) high)
