-- The script of `gen`: a heap, rounds of calls that a row of numbers tells, a collection and a census.
use Rattle.std.specs.Prelude.{ℕ, zero, suc, ◌+◌, ◌*◌, ◌/◌, ◌%◌, List, [], ◌∷◌, ◌++◌}
use Rattle.object_layout.specs.declared.calls.Call.TheVariants.{Null, Pop, New, Load, Store, Get, Begin, End, Collect, Census}
use Rattle.object_layout.specs.declared.calls.Call.{Call}
use Rattle.script_text.specs.declared.scripts.Line.{Line}
use Rattle.script_text.specs.ScriptContents.{ScriptContents}

-- a command before it has a line: its thread and its call
abbrev pub Command : Type 0
Command = ℕ × Call

-- the number after a number
abbrev pub next_number : ℕ → ℕ
next_number x = (75 * x + 74) % 65537

-- the number of a round of the script of so many rounds; round 0 has no commands
abbrev pub number_at : ℕ → ℕ → ℕ
number_at seed zero = seed % 65537
number_at seed (suc round) = next_number (number_at seed round)

-- the commands of a round of the thread t, where u is the next thread, f is a field and k a number of fields
abbrev pub kind : ℕ → ℕ → ℕ → ℕ → ℕ → List Command
kind t u f k zero =
    (t, Begin) ∷ (t, New 3) ∷ (t, New k) ∷ (t, Store 1 0 2) ∷ (t, Store 0 f 1) ∷ (t, End) ∷ (t, Pop) ∷ (t, Pop) ∷ []
kind t u f k (suc zero) = (t, Begin) ∷ (t, New k) ∷ (t, Pop) ∷ (t, End) ∷ []
kind t u f k (suc (suc more)) =
    (t, Begin) ∷ (t, New k) ∷ (t, Store 0 f 1) ∷ (u, Load 0 f) ∷ (t, Null) ∷ (t, Store 0 f 2)
    ∷ (t, Pop) ∷ (t, Pop) ∷ (t, End) ∷ (u, Get 1) ∷ (u, Pop) ∷ []

-- the commands of a round of a thread with a number
abbrev pub round : ℕ → ℕ → List Command
round t x = kind t (t % 4 + 1) (x / 3 % 16) (x / 48 % 20) (x % 3)

-- the commands of the first rounds
abbrev pub rounds : ℕ → ℕ → List Command
rounds seed zero = []
rounds seed (suc before) = rounds seed before ++ round (before % 4 + 1) (number_at seed (suc before))

-- all commands of the script of so many rounds
abbrev pub commands : ℕ → List Command
commands seed = rounds seed seed ++ (1, Collect) ∷ (1, Census) ∷ []

-- command lines, numbered from a number on
abbrev pub numbered : ℕ → List Command → List Line
numbered number [] = []
numbered number (command ∷ more) = record { number = number; thread = command.0; call = command.1 } ∷ numbered (number + 1) more

-- the script of so many rounds
abbrev pub generated : ℕ → ScriptContents
generated seed = record { heap = record { pages = 64; threads = 4 }; lines = numbered 2 (commands seed) }
