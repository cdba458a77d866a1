-- Work words that tell targets.
use Rattle.std.specs.Prelude.{◌≡◌, ◌⊎◌, ℕ, ◌+◌, ◌-◌, ◌*◌, ◌%◌, ◌==◌, nat_lt, cond, List, sum_by}
use Rattle.epoch_lattice.specs.declared.Space.{Space}
use Rattle.epoch_lattice.specs.declared.TheConstants.{MAX_DEPTH}
use Rattle.epoch_lattice.specs.Lattice.{space_index}
use Rattle.escape_closure.specs.declared.TheConstants.{WAITING}

-- The work word of an object whose target is a space, and that of one that waits on the list besides.
abbrev pub settled_word : Space → ℕ
settled_word x = space_index x + 1

abbrev pub waiting_word : Space → ℕ
waiting_word x = WAITING + (space_index x + 1)

abbrev pub TellsTarget : ℕ → Space → Type 0
TellsTarget work x = (work ≡ settled_word x) ⊎ (work ≡ waiting_word x)

-- How often the target of an object can rise, by the index of its target.
abbrev pub rises_left : ℕ → ℕ
rises_left index = cond (index == 0) 0 (1 + (index - 1) % MAX_DEPTH)

-- How often the fields of an object can still be scanned, by its work word.
abbrev pub scans_left : ℕ → ℕ
scans_left work = cond (work == 0) (MAX_DEPTH + 1) (cond (nat_lt work WAITING) (rises_left (work - 1)) (rises_left (work - WAITING - 1) + 1))

-- A weight that falls with each rise and each scan.
abbrev pub weight : ℕ → ℕ
weight word = cond (word == 0) (2 * WAITING) (cond (nat_lt word WAITING) (2 * word) (2 * (word - WAITING) + 1))

abbrev pub weights : List ℕ → ℕ
weights heap = sum_by weight heap

-- How many words are 0: of one word, and of all.
abbrev pub zero_count : ℕ → ℕ
zero_count word = cond (word == 0) 1 0

abbrev pub zeros : List ℕ → ℕ
zeros heap = sum_by zero_count heap
