use Rattle.std.proofs.Common.{◌≡◌, ◌+◌, ◌*◌, arith, subst, sym, ap, ◌∙◌, List, ℕ, refl}
use Rattle.heap_words.specs.Map.{heap_length, page_words}
use Rattle.heap_words.specs.Contents.{Sound, contents}
use Rattle.relocation.specs.Moves.{scratch_of}
use Rattle.yak_model.specs.Placed.{space_word}
use Rattle.relocation.specs.Moves.{move_at}
use Rattle.relocation.specs.Slide.{Runs, Sliding}
use Rattle.relocation.proofs.Slid.{same_table, slide-on, slide-none, page-other}
use Rattle.relocation.proofs.slides.plan_pages.Goals as goal
use Rattle.relocation.proofs.slides.plan_pages.Goals.{then-get_page-slid, else-get_page-slid}

pub loop-page-init : goal.loop-page-init
loop-page-init g c =
    let m = c.args.map in
    let ws = g.W.Words.words c.args.words.now in
    record {
      sliding = λ runs. rw (c.requires.empty.0, c.requires.empty.1, c.requires.empty.2) (slide-none m c.args.slid (contents m ws) runs (move_at (scratch_of m ws)));
      sound = c.requires.sound;
      base = refl;
    }

pub plan_page-requires-clause-sliding : goal.plan_page-requires-clause-sliding
plan_page-requires-clause-sliding g c =
    let m = c.args.map in
    let was = contents m (g.W.Words.words c.args.words.now) in
    let s = c.loop-page.invariant.sliding c.requires.runs in
    let read : c.get_page.result ≡ space_word was.table c.loop-page.page = c.get_page.ensures.value ∙ ap (λ (t : List (List ℕ)). space_word t c.loop-page.page) (same_table m c.args.slid was c.requires.runs _ _ _ _ _ _ s) in
    (was, c.requires.runs, subst (λ (ws : List ℕ). Sliding m c.args.slid was c.requires.runs (contents m ws) c.loop-page.plan.count (move_at (scratch_of m ws)) c.loop-page.cursor.next c.loop-page.cursor.room (page_words m * c.loop-page.page)) (sym c.get_page.ensures.words) s, sym read ∙ c.if-get_page-slid.true)

pub returns-clause-sliding : goal.returns-clause-sliding
returns-clause-sliding g c runs =
    let m = c.args.map in
    let was = contents m (g.W.Words.words c.args.words.now) in
    let now = g.W.Words.words c.loop-page.words in
    let all : page_words m * c.loop-page.page ≡ heap_length m = omega arith in
    subst (λ n. Sliding m c.args.slid was runs (contents m now) c.loop-page.plan.count (move_at (scratch_of m now)) c.loop-page.cursor.next c.loop-page.cursor.room n) all (c.loop-page.invariant.sliding runs)

pub loop-page-preserved : goal.loop-page-preserved
loop-page-preserved g c =
    let m = c.args.map in
    let first = g.W.Words.words c.args.words.now in
    let was = contents m first in
    let page = c.loop-page.page in
    let inv = c.loop-page.invariant in
    let read = λ (runs : Runs m c.args.slid was). (let e : c.get_page.result ≡ space_word was.table page = c.get_page.ensures.value ∙ ap (λ (t : List (List ℕ)). space_word t page) (same_table m c.args.slid was runs _ _ _ _ _ _ (inv.sliding runs)) in e) in
    let same = λ (runs : Runs m c.args.slid was). subst (λ (ws : List ℕ). Sliding m c.args.slid was runs (contents m ws) c.loop-page.plan.count (move_at (scratch_of m ws)) c.loop-page.cursor.next c.loop-page.cursor.room (page_words m * page)) (sym c.get_page.ensures.words) (inv.sliding runs) in
    elim c.if-get_page-slid.branch [
      | then-get_page-slid w ↦ rw (w.words-is, w.plan-is, w.cursor-is) (record {
        sliding = λ runs. w.plan_page.ensures.sliding was runs (same runs) (sym (read runs) ∙ w.if-get_page-slid.true);
        sound = w.plan_page.ensures.sound;
        base = w.plan_page.ensures.base ∙ (c.get_page.ensures.base ∙ inv.base);
      })
      | else-get_page-slid w ↦ rw (w.words-is, w.plan-is, w.cursor-is) (record {
        sliding = λ runs. slide-on m c.args.slid was runs _ _ _ _ _ (page_words m * page) (page_words m * (page + 1)) (same runs) (omega arith) (omega arith) (page-other m c.args.slid was runs page (λ h. w.if-get_page-slid.false (read runs ∙ h)));
        sound = subst (Sound m) (sym c.get_page.ensures.words) inv.sound;
        base = c.get_page.ensures.base ∙ inv.base;
      })
    ]
