-- The commands: the word of each and its numbers.
use Rattle.std.specs.Prelude.{◌≤◌, ℕ, List, [], ◌∷◌, All, codes, decimal, map}
use Rattle.object_layout.specs.declared.calls.Call.{Call}
use Rattle.object_layout.specs.declared.calls.Call.TheVariants.{Int, Null, Dup, Pop, New, Load, Store, Get, Same, Begin, End, Collect, Census}
use Rattle.object_layout.specs.declared.TheConstants.{MAX_INT}

-- what a number of a command is: an integer of a value, or a slot, a field or a number of fields
pub data Limit : Type 0 where
  IsInteger : Limit
  IsIndex : Limit

-- the greatest number
abbrev pub most : Limit → ℕ
most IsInteger = MAX_INT
most IsIndex = 4294967295

-- a number of a command with its limit
pub record Number : Type 0 where
  pub limit : Limit
  pub value : ℕ

-- a row of the table of the commands: the command's word and its numbers
pub record Spelling : Type 0 where
  pub word : List ℕ
  pub numbers : List Number

-- a number that is an integer
abbrev pub integer : ℕ → Number
integer value = record { limit = IsInteger; value = value }

-- a number that is a slot, a field or a number of fields
abbrev pub index : ℕ → Number
index value = record { limit = IsIndex; value = value }

-- a row of a word and its numbers
abbrev pub row : List ℕ → List Number → Spelling
row word numbers = record { word = word; numbers = numbers }

-- the table of the commands
abbrev pub spelling : Call → Spelling
spelling (Int i) = row (codes "int") (integer i ∷ [])
spelling Null = row (codes "null") []
spelling (Dup s) = row (codes "dup") (index s ∷ [])
spelling Pop = row (codes "pop") []
spelling (New k) = row (codes "new") (index k ∷ [])
spelling (Load s f) = row (codes "load") (index s ∷ index f ∷ [])
spelling (Store s f x) = row (codes "store") (index s ∷ index f ∷ index x ∷ [])
spelling (Get s) = row (codes "get") (index s ∷ [])
spelling (Same s x) = row (codes "same") (index s ∷ index x ∷ [])
spelling Begin = row (codes "begin") []
spelling End = row (codes "end") []
spelling Collect = row (codes "collect") []
spelling Census = row (codes "census") []

-- the command word of a call
abbrev pub word_of : Call → List ℕ
word_of call = (spelling call).word

-- the numbers of a call, from left to right
abbrev pub numbers_of : Call → List Number
numbers_of call = (spelling call).numbers

-- what the numbers of a call may be, from left to right
abbrev pub limits_of : Call → List Limit
limits_of call = map (λ number. number.limit) (numbers_of call)

-- the words of a command's numbers
abbrev pub number_words : List Number → List (List ℕ)
number_words numbers = map (λ number. decimal number.value) numbers

-- the words of a command
abbrev pub command_words : ℕ → Call → List (List ℕ)
command_words thread call = decimal thread ∷ word_of call ∷ number_words (numbers_of call)

-- a number within its limit
abbrev pub IsWithin : Number → Type 0
IsWithin number = number.value ≤ most number.limit

-- what one of so many threads may say
pub record IsSayable (threads thread : ℕ) (call : Call) : Type 0 where
  pub some : 1 ≤ thread
  pub few : thread ≤ threads
  pub within : All IsWithin (numbers_of call)
