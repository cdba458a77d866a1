-- How a run ends, and what was written then.
use Rattle.std.specs.Prelude.{◌≡◌, ℕ, ◌<◌, ◌≤◌, ◌⊎◌, List, [], ◌++◌, length, codes, Option, IfSome}
use Rattle.std.specs.Io.KnownBytes.{Appends}
use Rattle.yak_io.specs.Causes.{Rose}
use Rattle.yak_io.specs.Transfers.{TookAll, TookFront}
use Rattle.yak_io.specs.declared.TheConstants.{INPUT_LIMIT}
use Rattle.script_text.specs.declared.faults.Bad.{Bad}
use Rattle.script_text.specs.Reasons.{bad_text}
use Rattle.script_text.specs.Scripts.{IsBadLine}
use Rattle.heap_picture.specs.Pictures.{Draws}
use Rattle.heap_picture.specs.declared.endings.Status.{Status}
use Rattle.heap_picture.specs.declared.endings.Status.TheVariants.{Done, Refused, Unreadable, Unwritable, NoMemory}

-- the line that tells the first bad line of a text and its reason
abbrev pub refusal_line : Bad → List ℕ
refusal_line bad = bad_text bad ++ codes "\n"

-- The bytes are no script, and the text tells why.
pub record Refuses (bytes text : List ℕ) : Type 0 where
  pub bad : Bad
  pub refused : IsBadLine bytes bad
  pub line : text ≡ refusal_line bad

-- what a source or a sink tells before and after a run, and its counts of faults
pub record Told : Type 0 where
  pub before : Option (List ℕ)
  pub after : Option (List ℕ)
  pub faults_before : ℕ
  pub faults_after : ℕ

-- such a record, from its parts
abbrev pub told_of : Option (List ℕ) → Option (List ℕ) → ℕ → ℕ → Told
told_of before after faults_before faults_after = record { before = before; after = after; faults_before = faults_before; faults_after = faults_after }

-- the text was written
abbrev pub Writes : Told → List ℕ → Type 0
Writes output text = Appends output.before output.after text

-- a front of the text was written, and the sink failed
pub record Cut (output : Told) (text : List ℕ) : Type 0 where
  pub front : TookFront output.before output.after text
  pub rose : Rose output.faults_before output.faults_after

-- what the answer to a text of bytes is: it writes the picture, or why the bytes are no script, or a front of one of them
abbrev pub answers : Status → List ℕ → Told → Type 0
answers Done bytes output = (text : List ℕ) × Draws bytes text × Writes output text
answers Refused bytes output = (text : List ℕ) × Refuses bytes text × Writes output text
answers Unreadable bytes output = ⊥
answers Unwritable bytes output = (text : List ℕ) × (Draws bytes text ⊎ Refuses bytes text) × Cut output text
answers NoMemory bytes output = Writes output []

-- the bytes are the whole input, which is not too large
pub record IsInput (input : Told) (bytes : List ℕ) : Type 0 where
  pub whole : TookAll input.before input.after bytes
  pub within : length bytes ≤ INPUT_LIMIT

-- the source failed, or gave more bytes than an input may have
abbrev pub IsUnreadable : Told → Type 0
IsUnreadable input = Rose input.faults_before input.faults_after ⊎ IfSome input.before (λ told. INPUT_LIMIT < length told)

-- how a run ends: nothing is written where no input was read or memory was refused
abbrev pub ends : Status → Told → Told → Type 0
ends Unreadable input output = IsUnreadable input × Writes output []
ends NoMemory input output = Writes output []
ends Done input output = (bytes : List ℕ) × IsInput input bytes × answers Done bytes output
ends Refused input output = (bytes : List ℕ) × IsInput input bytes × answers Refused bytes output
ends Unwritable input output = (bytes : List ℕ) × IsInput input bytes × answers Unwritable bytes output
