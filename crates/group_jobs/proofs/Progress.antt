-- How far a count has come, where the stack stays.
use Rattle.std.proofs.Common.{◌≡◌, ◌≢◌, ℕ, ◌+◌, ◌≤◌, Bool, true, false, cond, List, [], ◌∷◌, length, get_or, refl, ◌∙◌, ap, arith}
use Rattle.yak_model.specs.declared.datum.Datum.{Datum}
use Rattle.yak_model.specs.declared.datum.Datum.TheVariants as datum
use Rattle.yak_model.specs.Private.{KnownObjects}
use Rattle.yak_model.specs.Room.{table_words}
use Rattle.yak_model.specs.Standing.{Standing}
use Rattle.group_jobs.specs.Tallies.{IsProgress, Tally, is_busy, new_total, task_room, words_room}
use Rattle.group_jobs.specs.declared.TheConstants.{TOTAL_SLOT}

pub tally_same : (s now : Standing) (known : KnownObjects) (done : List (List ℕ)) → (now.own).stack ≡ (s.own).stack → Tally s known done → Tally now known done
tally_same s now known done e t = record { name = t.name; slot = ap (λ (st : List Datum). get_or st TOTAL_SLOT datum.Null) e ∙ t.slot; table = t.table }

pub progress_same : (has : Bool) (s now : Standing) (known : KnownObjects) (done : List (List ℕ)) → (now.own).stack ≡ (s.own).stack → IsProgress has s known done → IsProgress has now known done
progress_same true s now known done e h = (ap length e ∙ h.0, tally_same s now known done e h.1)
progress_same false s now known done e h = (ap length e ∙ h.0, h.1)

pub not_busy : (words : List (List ℕ)) → is_busy words ≡ false → words ≡ []
not_busy [] e = refl
not_busy (word ∷ words) e = cc

pub busy_some : (words : List (List ℕ)) → is_busy words ≡ true → words ≢ []
busy_some words e none = cc

-- What a task with words takes at most, with the table of the total.
pub busy_room : (has : Bool) (words : List (List ℕ)) → is_busy words ≡ true → cond has 0 table_words + (table_words + words_room words) ≤ new_total has true + task_room words
busy_room true [] e = cc
busy_room false [] e = cc
busy_room true (word ∷ words) e = omega arith
busy_room false (word ∷ words) e = omega arith
