-- The parts of a picture: numbers, and the text that they are written as. A unit is a word of a page.
use Rattle.std.specs.Prelude.{ℕ, ◌+◌, ◌-◌, ◌*◌, ◌/◌, ◌%◌, List, [], ◌∷◌, ◌++◌, codes, decimal, Option}
use Rattle.std.specs.List.{concat}
use Rattle.heap_words.specs.declared.map.Areas.{Areas}
use Rattle.heap_words.specs.Map.{page_words}
use Rattle.epoch_lattice.specs.declared.Space.{Space}
use Rattle.heap_picture.specs.Colours.{colour_of, colour_text, label_text}
use Rattle.heap_picture.specs.declared.boxes.TheConstants.{BASELINE, COLUMNS, GAP, LINE}
use Rattle.heap_picture.specs.declared.boxes.Caption.{Caption}
use Rattle.heap_picture.specs.declared.boxes.Frame.{Frame}
use Rattle.heap_picture.specs.declared.boxes.PageBox.{PageBox}
use Rattle.heap_picture.specs.declared.boxes.PageName.{PageName}
use Rattle.heap_picture.specs.declared.boxes.Square.{Square}
use Rattle.heap_picture.specs.declared.boxes.Filling.{Filling}
use Rattle.object_layout.specs.declared.replies.Census.{Census}

-- how the beginning of a picture is written, with its size
abbrev pub frame_text : Frame → List ℕ
frame_text frame =
    concat
    (codes "<svg xmlns=\"http://www.w3.org/2000/svg\" viewBox=\"0 0 " ∷ decimal frame.width ∷ codes " " ∷ decimal frame.height
    ∷ codes "\" width=\"800\" font-family=\"sans-serif\" font-size=\"64\">\n<title>The pages of a heap</title>\n<rect width=\""
    ∷ decimal frame.width ∷ codes "\" height=\"" ∷ decimal frame.height ∷ codes "\" fill=\"white\"/>\n" ∷ [])

-- how the square of a page is written
abbrev pub square_text : Square → List ℕ
square_text square =
    concat
    (codes "<rect x=\"" ∷ decimal square.left ∷ codes "\" y=\"" ∷ decimal square.top ∷ codes "\" width=\"" ∷ decimal square.side
    ∷ codes "\" height=\"" ∷ decimal square.side ∷ codes "\" fill=\"white\" stroke=\"" ∷ colour_text square.colour
    ∷ codes "\" stroke-width=\"8\"/>\n" ∷ [])

-- how its filled part is written
abbrev pub filling_text : Filling → List ℕ
filling_text filling =
    concat
    (codes "<rect x=\"" ∷ decimal filling.left ∷ codes "\" y=\"" ∷ decimal filling.top ∷ codes "\" width=\"" ∷ decimal filling.width
    ∷ codes "\" height=\"" ∷ decimal filling.height ∷ codes "\" fill=\"" ∷ colour_text filling.colour ∷ codes "\"/>\n" ∷ [])

-- how its name is written
abbrev pub name_text : PageName → List ℕ
name_text name =
    concat
    (codes "<text x=\"" ∷ decimal name.left ∷ codes "\" y=\"" ∷ decimal name.baseline ∷ codes "\">" ∷ label_text name.label.space
    ∷ codes "</text>\n" ∷ [])

-- how the box of a page is written
abbrev pub box_text : PageBox → List ℕ
box_text shown = square_text shown.square ++ (filling_text shown.filling ++ name_text shown.name)

-- how the counts of pages are written
abbrev pub counts_text : Census → List ℕ
counts_text census =
    concat
    (decimal census.free ∷ codes " free, " ∷ decimal census.region ∷ codes " of regions (thread.depth), " ∷ decimal census.control
    ∷ codes " of control" ∷ [])

-- how the counts of pages and words below the boxes are written, and the end of the picture
abbrev pub caption_text : Caption → List ℕ
caption_text caption =
    concat
    (codes "<text x=\"" ∷ decimal caption.left ∷ codes "\" y=\"" ∷ decimal caption.baseline ∷ codes "\">pages: "
    ∷ counts_text caption.counts.census ∷ codes "; words in use: " ∷ decimal caption.used ∷ codes " of " ∷ decimal caption.all
    ∷ codes "</text>\n</svg>\n" ∷ [])

-- the height of the rows of boxes with their labels, and of the room above them
abbrev pub boxes_height : Areas → ℕ
boxes_height m = GAP + (page_words m + LINE) * ((m.pages + (COLUMNS - 1)) / COLUMNS)

-- the size of the picture of a heap of a map
abbrev pub frame_of : Areas → Frame
frame_of m = record { width = GAP + (page_words m + GAP) * COLUMNS; height = boxes_height m + LINE + GAP }

-- where the box of a page begins
abbrev pub left_of : Areas → ℕ → ℕ
left_of m page = GAP + (page_words m + GAP) * (page % COLUMNS)

abbrev pub top_of : Areas → ℕ → ℕ
top_of m page = GAP + (page_words m + LINE) * (page / COLUMNS)

-- the box of a page of a space, or of a free one, that is filled from below as far as its words are in use
abbrev pub box_of : Areas → ℕ → Option Space → ℕ → PageBox
box_of m page space used =
    record {
      square = record { left = left_of m page; top = top_of m page; side = page_words m; colour = colour_of space };
      filling = record { left = left_of m page; top = top_of m page + (page_words m - used); width = page_words m; height = used; colour = colour_of space };
      name = record { left = left_of m page; baseline = top_of m page + page_words m + BASELINE; label = record { space = space } };
    }
