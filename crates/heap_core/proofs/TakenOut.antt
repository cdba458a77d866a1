-- The words of a heap of one owner, taken out of it.
use Rattle.std.proofs.Common.{◌≡◌, length, ap, sym, subst, ◌∙◌}
use Rattle.std.proofs.Math.Logic.{∥∥₁_map}
use Rattle.heap_words.specs.declared.map.Areas.{Areas}
use Rattle.heap_words.specs.declared.memory.Image.{Image}
use Rattle.heap_words.specs.Map.{IsAreas, total_of}
use Rattle.heap_words.specs.Contents.{Sound, contents}
use Rattle.yak_model.specs.Recorded.{SomeRecorded}
use Rattle.standing_calls.specs.Records.{LogsHold}
use Rattle.standing_calls.proofs.Logged.{hold-told}
use Rattle.heap_core.proofs.Sound.{sound-from}

-- They stand for a state whose references are recorded.
pub recorded_in : (m map : Areas) (image words : Image) → m ≡ image.map → image ≡ words → map ≡ words.map → SomeRecorded map (contents map words.words.items) → SomeRecorded m (contents m image.words.items)
recorded_in m map image words is same own stands =
    let map_is : m ≡ map = is ∙ ap (λ (i : Image). i.map) same ∙ sym own in
    let items : image.words.items ≡ words.words.items = ap (λ (i : Image). i.words.items) same in
    rw (map_is, items) stands

pub taken_out : (m map : Areas) (image words : Image) → m ≡ image.map → image ≡ words → map ≡ words.map → SomeRecorded map (contents map words.words.items) → Sound m image.words.items × LogsHold m (contents m image.words.items)
taken_out m map image words is same own stands =
    let areas : IsAreas m = subst IsAreas (sym is) image.areas in
    let some = recorded_in m map image words is same own stands in
    (sound-from m image.words.items areas (subst (λ (x : Areas). length image.words.items ≡ total_of x) (sym is) image.whole) (∥∥₁_map some (λ q. (q.0, q.1))), hold-told m (contents m image.words.items) areas some)
