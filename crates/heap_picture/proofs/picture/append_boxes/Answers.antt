use Rattle.std.proofs.Common.{ℕ, List, ◌++◌, ap, ◌∙◌}
use Rattle.heap_words.specs.Contents.{contents}
use Rattle.heap_picture.specs.Boxes.{box_text}
use Rattle.heap_picture.specs.declared.boxes.PageBox.{PageBox}
use Rattle.heap_picture.specs.Pictures.{page_box, page_text}
use Rattle.heap_picture.proofs.Drawing.{one_more}
use Rattle.heap_picture.proofs.picture.append_boxes.Goals as goal

pub loop-page-preserved : goal.loop-page-preserved
loop-page-preserved g c =
    let m = c.args.map in
    let table = (contents m (g.W.Words.words c.args.words.now)).table in
    let inv = c.loop-page.invariant in
    let shown = c.read_box-shown.ensures.shown ∙ ap (λ (ws : List ℕ). page_box m (contents m ws).table c.loop-page.page) inv.words in
    record {
      words = c.read_box-shown.ensures.words ∙ inv.words;
      base = c.read_box-shown.ensures.base ∙ inv.base;
      text =
          c.in_ok-append.ensures
          ∙ ap (λ (b : PageBox). c.loop-page.text.items ++ box_text b) shown
          ∙ ap (λ (l : List ℕ). l ++ page_text m table c.loop-page.page) inv.text
          ∙ one_more (page_text m table) c.args.text.now.items c.loop-page.page;
    }
