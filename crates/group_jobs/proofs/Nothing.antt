-- A map without entries.
use Rattle.std.proofs.Common.{◌≡◌, List, [], ◌∷◌, length, refl, sym, ◌∙◌, arith}
use Rattle.std.specs.declared.cmp.Ordering.{Ordering}
use Rattle.std.specs.FinMap.{empty, entries, get-empty, len-empty, len-entries}
use Rattle.yak_model.specs.Texts.{word_cmp, word_counts}
use Rattle.heap_tables.specs.Entries.{AreEntries}

nothing_in : {A : Type 0} (xs : List A) → length xs ≡ 0 → xs ≡ []
nothing_in [] h = refl
nothing_in (x ∷ xs) h = absurd (omega (arith, h))

pub no_entries : {K : Type 0} (R : K → K → Ordering) (X : Type 0) → entries (empty {X = X} {R = R}) ≡ []
no_entries R X = nothing_in (entries (empty {X = X} {R = R})) (sym (len-entries (empty {X = X} {R = R})) ∙ len-empty R X)

-- no words have no counts
pub nothing_counted : AreEntries (word_counts []) []
nothing_counted = record { once = λ i j d less below. absurd (omega (arith, below)); found = λ word. sym (get-empty word_cmp word) }
