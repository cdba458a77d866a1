-- The numbers of a count lie in their ranges.
use Rattle.std.proofs.Common.{◌≡◌, ◌≤◌, ℕ, List, Option, None, Some, sym, subst, inl, inr, arith}
use Rattle.std.specs.Prelude.{IfSome}
use Rattle.object_layout.specs.declared.TheConstants.{MAX_THREADS}
use Rattle.heap_words.specs.declared.TheConstants.{MAX_PAGES}
use Rattle.yak.specs.declared.forms.TheConstants.{DEFAULT_TASK}
use Rattle.yak.specs.declared.forms.Form.{Form}
use Rattle.yak.specs.declared.forms.Form.TheVariants.{Count}
use Rattle.yak.specs.declared.forms.Options.{Options}
use Rattle.yak.specs.declared.forms.Setting.{Setting}
use Rattle.yak.specs.declared.forms.Setting.TheVariants.{Workers, Task, Pages}
use Rattle.yak.specs.declared.forms.Settings.{Settings}
use Rattle.yak.specs.Forms.{IsForm, IsNumber, IsSetting, Sets, Tells, all_told, chosen, one_told, or_default, tell, unset}

-- the numbers that were told are such as the options may have
record AreNumbers (settings : Settings) : Type 0 where
  workers : IfSome settings.workers (IsNumber Workers)
  task : IfSome settings.task (IsNumber Task)
  pages : IfSome settings.pages (IsNumber Pages)

number_within : (words : List (List ℕ)) (setting : Setting) (number : ℕ) (rest : List (List ℕ)) → IsSetting words setting number rest → IsNumber setting number
number_within words setting number rest (inl (word, joined, is)) = joined.within
number_within words setting number rest (inr (within, is)) = within

told_number : (setting : Setting) (number : ℕ) (before : Settings) → IsNumber setting number → AreNumbers before → AreNumbers (tell setting number before)
told_number Workers number before is are = record { workers = is; task = are.task; pages = are.pages }
told_number Task number before is are = record { workers = are.workers; task = is; pages = are.pages }
told_number Pages number before is are = record { workers = are.workers; task = are.task; pages = is }

next_numbers : (words : List (List ℕ)) (before after : Settings) (rest : List (List ℕ)) → Tells words before after rest → AreNumbers before → AreNumbers after
next_numbers words before after rest (inl (setting, number, is, untold, same)) are =
    subst AreNumbers (sym same) (told_number setting number before (number_within words setting number rest is) are)
next_numbers words before after rest (inr (fed, untold, same)) are = subst AreNumbers (sym same) (record { workers = are.workers; task = are.task; pages = are.pages })

all_numbers : (settings before : Settings) (words : List (List ℕ)) → Sets settings before words → AreNumbers before → AreNumbers settings
all_numbers settings before words (all_told empty same) are = subst AreNumbers (sym same) are
all_numbers settings before words (one_told after rest tells later) are = all_numbers settings after rest later (next_numbers words before after rest tells are)

default_number : (setting : Setting) (told : Option ℕ) (number : ℕ) → IfSome told (IsNumber setting) → IsNumber setting number → IsNumber setting (or_default told number)
default_number setting None number are is = is
default_number setting (Some told) number are is = are

pub record IsRanged (options : Options) : Type 0 where
  pub workers : (1 ≤ options.workers) × (options.workers ≤ MAX_THREADS)
  pub pages : (1 ≤ options.pages) × (options.pages ≤ MAX_PAGES)
  pub task : 1 ≤ options.task

ranged : (settings : Settings) → AreNumbers settings → IsRanged (chosen settings)
ranged settings are =
    let workers = default_number Workers settings.workers 1 are.workers (record { some = omega arith; few = omega arith }) in
    let pages = default_number Pages settings.pages MAX_PAGES are.pages (record { some = omega arith; few = omega arith }) in
    let task = default_number Task settings.task DEFAULT_TASK are.task (record { some = omega arith; few = omega arith }) in
    record { workers = (workers.some, workers.few); pages = (pages.some, pages.few); task = task.some }

pub form_ranged : (words : List (List ℕ)) (options : Options) → IsForm words (Count options) → IsRanged options
form_ranged words options h = subst IsRanged (sym h.4) (ranged h.0 (all_numbers h.0 unset h.1 h.3 (record { workers = tt; task = tt; pages = tt })))

pub count_ranged : (words : List (List ℕ)) (form : Form) (options : Options) → IsForm words form → form ≡ Count options → IsRanged options
count_ranged words form options is named = form_ranged words options (subst (IsForm words) named is)
