use Rattle.std.proofs.Common.{ℕ, List, ◌++◌, ap, ◌∙◌}
use Rattle.std.specs.List.{flat_map, range_with_len}
use Rattle.heap_words.specs.Contents.{contents}
use Rattle.heap_picture.specs.Boxes.{caption_text, frame_of, frame_text}
use Rattle.heap_picture.specs.declared.boxes.Caption.{Caption}
use Rattle.heap_picture.specs.declared.boxes.Frame.{Frame}
use Rattle.heap_picture.specs.Pictures.{caption_of, page_text}
use Rattle.heap_picture.proofs.picture.picture_with.Goals as goal

pub returns : goal.returns
returns g c =
    let m = c.args.map in
    let table = (contents m (g.W.Words.words c.args.words.now)).table in
    let boxes : List ℕ = flat_map (page_text m table) (range_with_len 0 m.pages) in
    let front = c.in_ok-append.ensures ∙ ap (λ (l : List ℕ). l ++ frame_text c.frame_of.result) c.new-text.ensures.items ∙ ap (λ (f : Frame). frame_text f) c.frame_of.ensures in
    let counts = c.caption.ensures ∙ ap (λ (ws : List ℕ). caption_of m (contents m ws).table) c.in_ok-append_boxes.ensures.words in
    c.in_ok-append-2.ensures
    ∙ ap (λ (l : List ℕ). l ++ caption_text c.caption.result) (c.in_ok-append_boxes.ensures.appended ∙ ap (λ (l : List ℕ). l ++ boxes) front)
    ∙ ap (λ (k : Caption). (frame_text (frame_of m) ++ boxes) ++ caption_text k) counts
