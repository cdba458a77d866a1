-- What the answer to words says: what each number tells of the words and of the input, and which numbers each kind of words gets.
use Rattle.std.specs.Prelude.{◌≡◌, ◌≢◌, ◌<◌, ◌≤◌, ◌⊎◌, ℕ, true, false, List, length}
use Rattle.std.specs.Io.KnownBytes.{Appends}
use Rattle.yak_io.specs.Causes.{Rose}
use Rattle.yak_io.specs.declared.TheConstants.{INPUT_LIMIT}
use Rattle.script_text.specs.declared.faults.Bad.{Bad}
use Rattle.script_text.specs.ScriptContents.{ScriptContents}
use Rattle.script_text.specs.Scripts.{IsScript, IsBadLine}
use Rattle.group_jobs.specs.LongWords.{has_long_word}
use Rattle.yak.specs.declared.forms.Options.{Options}
use Rattle.yak.specs.Forms.{IsAsked, IsCount, IsGen, IsReading, IsReplay}
use Rattle.yak.specs.Keeping.{Keeping}
use Rattle.yak.specs.Endings.{CutBy, EndsBy, EndsCounted, EndsGenerated, EndsLong, EndsOut, EndsRefused, EndsReplayed, Input, IsFaultless, IsTooLarge, KeepsNothing, Output, WritesNothing, belongs, usage_line}

-- A run on one core, on these words with this input and output, answered the number and kept this.
pub record Answers (number : ℕ) (words : List (List ℕ)) (input : Input) (output : Output) (keeping : Keeping) : Type 0 where
  pub ending : EndsBy (belongs words) number input output keeping
  pub replays : IsReplay words → number ≡ 0 → EndsReplayed input output keeping
  pub generates : (rounds : ℕ) → IsGen words rounds → number ≡ 0 → EndsGenerated rounds output keeping
  pub counts : (options : Options) → IsCount words options → number ≡ 0 → EndsCounted options input output keeping
  pub usage : number ≡ 1 → (IsAsked words → ⊥) × Appends output.before output.after usage_line
  pub refused : number ≡ 2 → IsReplay words × EndsRefused input output
  pub read_fault : number ≡ 3 → IsReading words × Rose input.faults_before input.faults_after × WritesNothing output
  pub write_fault : number ≡ 4 → Rose output.faults_before output.faults_after
  pub cut : number ≡ 4 → CutBy (belongs words) input output
  pub no_memory : number ≡ 5 → WritesNothing output
  pub too_large : number ≡ 6 → IsReading words × IsTooLarge input × WritesNothing output
  pub out_of_heap : number ≡ 7 → (options : Options) × IsCount words options × EndsOut options input output
  pub long_word : number ≡ 8 → ((options : Options) × IsCount words options) × EndsLong input output
  pub no_others : (number ≡ 9) ⊎ (number ≡ 10) → ⊥
  pub kept : number ≢ 0 → KeepsNothing keeping
  pub other_words : (IsAsked words → ⊥) → (number ≡ 1) ⊎ (number ≡ 4) ⊎ (number ≡ 5)
  pub every_script : (bytes : List ℕ) (script : ScriptContents) → IsReplay words → IsFaultless input output bytes → length bytes ≤ INPUT_LIMIT → IsScript bytes script
      → (number ≡ 0) ⊎ (number ≡ 5)
  pub every_refusal : (bytes : List ℕ) (bad : Bad) → IsReplay words → IsFaultless input output bytes → length bytes ≤ INPUT_LIMIT → IsBadLine bytes bad
      → (number ≡ 2) ⊎ (number ≡ 5)
  pub every_gen : (rounds : ℕ) → IsGen words rounds → (Rose output.faults_before output.faults_after → ⊥) → (number ≡ 0) ⊎ (number ≡ 5)
  pub every_excess : (bytes : List ℕ) → IsReading words → IsFaultless input output bytes → INPUT_LIMIT < length bytes → (number ≡ 6) ⊎ (number ≡ 5)
  pub every_count : (options : Options) (bytes : List ℕ) → IsCount words options → IsFaultless input output bytes → length bytes ≤ INPUT_LIMIT
      → has_long_word bytes ≡ false → (number ≡ 0) ⊎ (number ≡ 7) ⊎ (number ≡ 5)
  pub every_long_word : (options : Options) (bytes : List ℕ) → IsCount words options → IsFaultless input output bytes → length bytes ≤ INPUT_LIMIT
      → has_long_word bytes ≡ true → (number ≡ 8) ⊎ (number ≡ 5)
