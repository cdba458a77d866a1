-- The colours and labels of pages.
use Rattle.std.specs.Prelude.{ℕ, ◌-◌, ◌*◌, List, ◌++◌, codes, decimal, Option, Some, None}
use Rattle.epoch_lattice.specs.declared.Space.{Space}
use Rattle.epoch_lattice.specs.declared.Space.TheVariants.{Control, Region}
use Rattle.heap_picture.specs.declared.colours.Colour.{Colour}

-- how a colour is written
abbrev pub colour_text : Colour → List ℕ
colour_text colour = codes "hsl(" ++ decimal colour.hue ++ codes "," ++ decimal colour.saturation ++ codes "%," ++ decimal colour.lightness ++ codes "%)"

-- a colour, from its parts
abbrev pub hsl : ℕ → ℕ → ℕ → Colour
hsl hue saturation lightness = record { hue = hue; saturation = saturation; lightness = lightness }

-- the colour of a free page, of one of Control, and of one of a region: a hue by the thread, the darker the deeper the region is
abbrev pub colour_of : Option Space → Colour
colour_of None = hsl 0 0 85
colour_of (Some Control) = hsl 215 15 45
colour_of (Some (Region thread depth)) = hsl (45 * thread) 65 (80 - 7 * depth)

-- what a page is called
abbrev pub label_text : Option Space → List ℕ
label_text None = codes "free"
label_text (Some Control) = codes "control"
label_text (Some (Region thread depth)) = decimal thread ++ codes "." ++ decimal depth
