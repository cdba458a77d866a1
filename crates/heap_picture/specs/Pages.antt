-- What the page table tells of a page.
use Rattle.std.specs.Prelude.{ℕ, ◌-◌, ◌==◌, cond, Option, None}
use Rattle.epoch_lattice.specs.declared.Space.{Space}
use Rattle.epoch_lattice.specs.Lattice.{space_of}

-- the space that a page belongs to by the first word of its entry: none for 0, else that of the index before the word
abbrev pub owner_of : ℕ → Option Space
owner_of word = cond (word == 0) None (space_of (word - 1))
