use Rattle.std.proofs.Common.{◌≡◌, ◌≤◌, ◌<◌, ◌+◌, arith, subst, sym, ap, ◌∙◌, List, ℕ, get_or, length}
use Rattle.heap_words.specs.Contents.{Contents, Sound, contents, with_page}
use Rattle.mark_compact.proofs.Tables.{length-table}
use Rattle.yak_model.specs.Placed.{space_word}
use Rattle.mark_compact.proofs.Tables.{FreedTo, freed-page, freed-other, freed-all, pages-left}
use Rattle.mark_compact.proofs.sliding.give_back.Goals as goal
use Rattle.mark_compact.proofs.sliding.give_back.Goals.{then-get_page-eq-CONTROL_WORD, else-get_page-eq-CONTROL_WORD}

pub loop-page-preserved : goal.loop-page-preserved
loop-page-preserved g c =
    let m = c.args.map in
    let was = contents m (g.W.Words.words c.args.words.now) in
    let now = g.W.Words.words c.loop-page.words in
    let page = c.loop-page.page in
    let inv = c.loop-page.invariant in
    let read : c.get_page.result ≡ space_word was.table page = c.get_page.ensures.value ∙ ap (λ (r : List ℕ). get_or r 0 0) (inv.freed.ahead page (omega arith)) in
    let within : page < length (contents m now).table = rw (length-table m now) (omega arith) in
    let up : c.args.next ≤ page + 1 = omega arith in
    elim c.if-get_page-eq-CONTROL_WORD.branch [
      | then-get_page-eq-CONTROL_WORD w ↦
          let next = g.W.Words.words w.set_page-then-get_page-eq-CONTROL_WORD.new.words in
          let e : contents m next ≡ with_page (with_page (contents m now) page 0 0) page 1 0 = w.set_page-then-get_page-eq-CONTROL_WORD.ensures.set ∙ ap (λ (x : Contents). with_page x page 1 0) (w.set_page.ensures.set ∙ ap (λ (ws : List ℕ). with_page (contents m ws) page 0 0) c.get_page.ensures.words) in
          rw w.words-is (record {
            freed = freed-page m was (contents m now) (contents m next) c.args.next page inv.freed inv.range within (sym read ∙ w.if-get_page-eq-CONTROL_WORD.true) e;
            range = up;
            sound = w.set_page-then-get_page-eq-CONTROL_WORD.ensures.sound;
            base = w.set_page-then-get_page-eq-CONTROL_WORD.ensures.base ∙ (w.set_page.ensures.base ∙ (c.get_page.ensures.base ∙ inv.base));
          })
      | else-get_page-eq-CONTROL_WORD w ↦ rw w.words-is (record {
        freed = subst (λ (ws : List ℕ). FreedTo m was (contents m ws) c.args.next (page + 1)) (sym c.get_page.ensures.words) (freed-other m was (contents m now) c.args.next page inv.freed (λ h. w.if-get_page-eq-CONTROL_WORD.false (read ∙ h)));
        range = up;
        sound = subst (Sound m) (sym c.get_page.ensures.words) inv.sound;
        base = c.get_page.ensures.base ∙ inv.base;
      })
    ]

pub returns-clause-packed : goal.returns-clause-packed
returns-clause-packed g c =
    let m = c.args.map in
    let was = contents m (g.W.Words.words c.args.words.now) in
    let now = g.W.Words.words c.loop-page.words in
    let all : m.pages ≤ c.loop-page.page = omega arith in
    pages-left m was (contents m now) c.args.next (freed-all m was (contents m now) c.args.next c.loop-page.page c.loop-page.invariant.freed all) (length-table m now) c.requires.within
