-- The forms of words that are understood, and which of them are answered.
use Rattle.std.specs.Prelude.{◌≡◌, ◌≤◌, ◌⊎◌, ℕ, true, false, List, [], ◌∷◌, ◌++◌, Option, Some, None, codes, decimal}
use Rattle.object_layout.specs.declared.TheConstants.{MAX_THREADS}
use Rattle.yak_io.specs.declared.TheConstants.{INPUT_LIMIT}
use Rattle.heap_words.specs.declared.TheConstants.{MAX_PAGES}
use Rattle.yak.specs.declared.forms.TheConstants.{DEFAULT_TASK, MAX_ROUNDS}
use Rattle.yak.specs.declared.forms.Form.{Form}
use Rattle.yak.specs.declared.forms.Form.TheVariants.{Replay, Threads, Count, Gen, Traced}
use Rattle.yak.specs.declared.forms.Tracing.{Tracing}
use Rattle.yak.specs.declared.forms.Tracing.TheVariants.{Make, Check}
use Rattle.yak.specs.declared.forms.Options.{Options}
use Rattle.yak.specs.declared.forms.Setting.{Setting}
use Rattle.yak.specs.declared.forms.Setting.TheVariants.{Workers, Task, Pages}
use Rattle.yak.specs.declared.forms.Settings.{Settings}

-- ---- the options of a count

-- the word of an option with a number
abbrev pub setting_word : Setting → List ℕ
setting_word Workers = codes "--workers"
setting_word Task = codes "--task"
setting_word Pages = codes "--pages"

-- the greatest number of an option; the least is 1
abbrev pub most_of : Setting → ℕ
most_of Workers = MAX_THREADS
most_of Task = INPUT_LIMIT
most_of Pages = MAX_PAGES

-- the number that was told for an option
abbrev pub told : Setting → Settings → Option ℕ
told Workers settings = settings.workers
told Task settings = settings.task
told Pages settings = settings.pages

-- the settings with this number for an option
abbrev pub tell : Setting → ℕ → Settings → Settings
tell Workers number settings = record settings { workers = Some number }
tell Task number settings = record settings { task = Some number }
tell Pages number settings = record settings { pages = Some number }

-- the word of the option without a number
abbrev pub feed_word : List ℕ
feed_word = codes "--feed"

-- no option was told
abbrev pub unset : Settings
unset = record { workers = None; task = None; pages = None; feed = false }

-- a number that an option may have
pub record IsNumber (setting : Setting) (number : ℕ) : Type 0 where
  pub some : 1 ≤ number
  pub few : number ≤ most_of setting

-- one word that tells an option, = and its number
pub record IsJoined (word : List ℕ) (setting : Setting) (number : ℕ) : Type 0 where
  pub within : IsNumber setting number
  pub spelled : word ≡ setting_word setting ++ codes "=" ++ decimal number

-- the words begin with an option and its number, as one word with = or as two words, and this is the rest of them
abbrev pub IsSetting : List (List ℕ) → Setting → ℕ → List (List ℕ) → Type 0
IsSetting words setting number rest =
    ((word : List ℕ) × IsJoined word setting number × (words ≡ word ∷ rest))
    ⊎ (IsNumber setting number × (words ≡ setting_word setting ∷ decimal number ∷ rest))

-- The words begin with an option that the settings before don't have. With it they are those after, and this is the rest of the words.
abbrev pub Tells : List (List ℕ) → Settings → Settings → List (List ℕ) → Type 0
Tells words before after rest =
    ((setting : Setting) × (number : ℕ) × IsSetting words setting number rest × (told setting before ≡ None) × (after ≡ tell setting number before))
    ⊎ ((words ≡ feed_word ∷ rest) × (before.feed ≡ false) × (after ≡ record before { feed = true }))

-- The words tell options, one after another and each at most once: from the settings before they lead to these.
pub data Sets (settings : Settings) : Settings → List (List ℕ) → Type 0 where
  all_told : {before : Settings} {words : List (List ℕ)} → words ≡ [] → settings ≡ before → Sets settings before words
  one_told : {before : Settings} {words : List (List ℕ)} (after : Settings) (rest : List (List ℕ)) → Tells words before after rest → Sets settings after rest → Sets settings before words

-- the number that was told, or else the default
abbrev pub or_default : Option ℕ → ℕ → ℕ
or_default None number = number
or_default (Some number) other = number

-- what a count is made with
abbrev pub chosen : Settings → Options
chosen settings = record { workers = or_default settings.workers 1; task = or_default settings.task DEFAULT_TASK; pages = or_default settings.pages MAX_PAGES; feed = settings.feed }

-- ---- the forms

-- the word of what is done with traces
abbrev pub tracing_word : Tracing → List ℕ
tracing_word Make = codes "trace"
tracing_word Check = codes "check"

-- the words are of this form
abbrev pub IsForm : List (List ℕ) → Form → Type 0
IsForm words Replay = words ≡ codes "replay" ∷ []
IsForm words Threads = words ≡ codes "threads" ∷ []
IsForm words (Count options) = (settings : Settings) × (rest : List (List ℕ)) × (words ≡ codes "count" ∷ rest) × Sets settings unset rest × (options ≡ chosen settings)
IsForm words (Gen rounds) = (rounds ≤ MAX_ROUNDS) × (words ≡ codes "gen" ∷ decimal rounds ∷ [])
IsForm words (Traced tracing) = words ≡ tracing_word tracing ∷ []

-- a count by one worker, without a queue
abbrev pub GoesAlone : Options → Type 0
GoesAlone options = (options.workers ≡ 1) × (options.feed ≡ false)

-- a form that is answered on one core
abbrev pub IsBuiltForm : Form → Type 0
IsBuiltForm Replay = Unit {0}
IsBuiltForm Threads = ⊥
IsBuiltForm (Count options) = GoesAlone options
IsBuiltForm (Gen rounds) = Unit {0}
IsBuiltForm (Traced tracing) = Unit {0}

-- the words ask for what is answered
abbrev pub IsAsked : List (List ℕ) → Type 0
IsAsked words = (form : Form) × IsForm words form × IsBuiltForm form

-- the words ask for a replay
abbrev pub IsReplay : List (List ℕ) → Type 0
IsReplay words = IsForm words Replay

-- the words ask for a run in threads
abbrev pub IsThreads : List (List ℕ) → Type 0
IsThreads words = IsForm words Threads

-- the words ask for the generated script of so many rounds
abbrev pub IsGen : List (List ℕ) → ℕ → Type 0
IsGen words rounds = IsForm words (Gen rounds)

-- the words ask for this of traces
abbrev pub IsTraced : List (List ℕ) → Tracing → Type 0
IsTraced words tracing = IsForm words (Traced tracing)

-- the words ask for nothing of traces
abbrev pub IsUntraced : List (List ℕ) → Type 0
IsUntraced words = (tracing : Tracing) → IsTraced words tracing → ⊥

-- the words ask for a count by one worker, without a queue
pub record IsCount (words : List (List ℕ)) (options : Options) : Type 0 where
  pub named : IsForm words (Count options)
  pub alone : GoesAlone options

-- the words ask for what reads the input, but nothing of traces: a replay, or a count by one worker
abbrev pub IsReading : List (List ℕ) → Type 0
IsReading words = IsReplay words ⊎ ((options : Options) × IsCount words options)

-- a count whose workers have threads of their own: there are several, or they take the tasks from a queue
abbrev pub GoesShared : Options → Type 0
GoesShared options = (2 ≤ options.workers) ⊎ (options.feed ≡ true)

-- the words ask for a count by workers with threads of their own
pub record IsShared (words : List (List ℕ)) (options : Options) : Type 0 where
  pub named : IsForm words (Count options)
  pub goes : GoesShared options

-- the words ask for no count by workers with threads of their own
abbrev pub IsUnshared : List (List ℕ) → Type 0
IsUnshared words = (options : Options) → IsShared words options → ⊥
