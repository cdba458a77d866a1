use Rattle.std.proofs.Common.{◌≡◌, ℕ, List, IfOk, ap, subst}
use Rattle.heap_words.specs.declared.map.Areas.{Areas}
use Rattle.heap_words.specs.declared.memory.Image.{Image}
use Rattle.heap_words.specs.Map.{IsAreas}
use Rattle.heap_words.specs.Contents.{contents}
use Rattle.heap_picture.specs.Pictures.{picture_of}
use Rattle.heap_picture.proofs.Standing.{IsDrawable, drawable, drawable_again}
use Rattle.heap_picture.proofs.picture.picture.Goals as goal

abbrev map_of : ℕ → ℕ → Areas
map_of pages threads = record { pages = pages; threads = threads }

held : (c : goal.After-words-1) → IsDrawable (map_of c.pages.result c.threads.result) c.into_words-words.result.words.items
held c =
    let core = c.args.core in
    let areas : IsAreas core.map = rw core.own core.words.areas in
    let words = core.words.words.items in
    let same = ap (λ (x : Image). x.words.items) c.into_words-words.ensures in
    drawable_again core.map (map_of c.pages.result c.threads.result) words c.into_words-words.result.words.items c.pages.ensures c.threads.ensures same
    (drawable core.map words areas (rw core.own core.words.whole) core.stands)

pub picture_with-requires-clause-sound : goal.picture_with-requires-clause-sound
picture_with-requires-clause-sound c = (held c).sound

pub picture_with-requires-clause-marks : goal.picture_with-requires-clause-marks
picture_with-requires-clause-marks c = (held c).marks

pub picture_with-requires-clause-pool : goal.picture_with-requires-clause-pool
picture_with-requires-clause-pool c = (held c).pool

pub returns : goal.returns
returns c =
    let core = c.args.core in
    let both : (map_of c.pages.result c.threads.result, c.into_words-words.result.words.items) ≡ (core.map, core.words.words.items) =
    λ i. (map_of (c.pages.ensures i) (c.threads.ensures i), (c.into_words-words.ensures i).words.items) in
    subst (λ (x : Areas × List ℕ). IfOk c.picture_with.result (λ text. text.items ≡ picture_of x.0 (contents x.0 x.1).table)) both c.picture_with.ensures
