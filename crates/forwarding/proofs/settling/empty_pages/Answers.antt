use Rattle.std.proofs.Common.{◌≡◌, ◌<◌, ◌+◌, arith, subst, sym, ap, ◌∙◌, List, ℕ, get_or}
use Rattle.heap_words.specs.Cells.{row_set}
use Rattle.heap_words.specs.Contents.{Contents, Sound, contents, with_page}
use Rattle.yak_model.specs.Placed.{space_word}
use Rattle.relocation.specs.Slide.{IsPageOf}
use Rattle.forwarding.specs.Settled.{Emptied}
use Rattle.forwarding.proofs.RegionSteps.{length-table}
use Rattle.forwarding.proofs.TableSteps.{length-entry, emptied-more, emptied-past}
use Rattle.forwarding.proofs.settling.empty_pages.Goals as goal
use Rattle.forwarding.proofs.settling.empty_pages.Goals.{then-get_page-slid, else-get_page-slid}

pub loop-page-preserved : goal.loop-page-preserved
loop-page-preserved g c =
    let m = c.args.map in
    let ws : List ℕ = g.W.Words.words c.args.words.now in
    let mid_words : List ℕ = g.W.Words.words c.loop-page.words in
    let was : Contents = contents m ws in
    let mid : Contents = contents m mid_words in
    let page : ℕ = c.loop-page.page in
    let slid : ℕ = c.args.slid in
    let next : ℕ = c.args.next in
    let inv = c.loop-page.invariant in
    let read : c.get_page.result ≡ space_word was.table page = c.get_page.ensures.value ∙ ap (λ (r : List ℕ). get_or r 0 0) (inv.emptied.ahead page (omega arith)) in
    let in_heap : page < m.pages = omega arith in
    elim c.if-get_page-slid.branch [
      | then-get_page-slid w ↦
          (let new_words : List ℕ = g.W.Words.words w.empty_page.new.words in
          let new : Contents = contents m new_words in
          let word : ℕ = w.settled_word.result in
          let step : new ≡ with_page (with_page mid page 0 word) page 1 0 = w.empty_page.ensures.set ∙ ap (λ (vs : List ℕ). with_page (with_page (contents m vs) page 0 word) page 1 0) c.get_page.ensures.words in
          let table : new.table ≡ row_set (row_set mid.table page 0 word) page 1 0 = ap (λ (x : Contents). x.table) step in
          let is : IsPageOf slid was.table page = sym read ∙ w.if-get_page-slid.true in
          let more : Emptied slid was.table (row_set (row_set mid.table page 0 word) page 1 0) next (page + 1) = emptied-more slid was.table mid.table next page word inv.emptied (omega (arith, length-table m mid_words, in_heap)) (length-entry m mid_words page inv.sound.whole in_heap) is w.settled_word.ensures.kept w.settled_word.ensures.free in
          let frame : new ≡ record was { table = row_set (row_set mid.table page 0 word) page 1 0 } = step ∙ ap (λ (x : Contents). let y : Contents = record x { table = row_set (row_set mid.table page 0 word) page 1 0 } in y) inv.frame in
          rw w.words-is (record {
            emptied = subst (λ (t : List (List ℕ)). Emptied slid was.table t next (page + 1)) (sym table) more;
            frame = frame ∙ ap (λ (t : List (List ℕ)). let y : Contents = record was { table = t } in y) (sym table);
            sound = w.empty_page.ensures.sound;
            reads = omega (arith, inv.reads, c.get_page.ensures.reads, w.empty_page.ensures.reads);
            base = w.empty_page.ensures.base ∙ (c.get_page.ensures.base ∙ inv.base);
          }))
      | else-get_page-slid w ↦ rw w.words-is (record {
        emptied = subst (λ (vs : List ℕ). Emptied slid was.table (contents m vs).table next (page + 1)) (sym c.get_page.ensures.words) (emptied-past slid was.table mid.table next page inv.emptied (λ is. w.if-get_page-slid.false (read ∙ is)));
        frame = subst (λ (vs : List ℕ). contents m vs ≡ record was { table = (contents m vs).table }) (sym c.get_page.ensures.words) inv.frame;
        sound = subst (Sound m) (sym c.get_page.ensures.words) inv.sound;
        reads = omega (arith, inv.reads, c.get_page.ensures.reads);
        base = c.get_page.ensures.base ∙ inv.base;
      })
    ]
