-- How the objects lie after a slide.
use Rattle.std.specs.Prelude.{ℕ, ◌/◌, ◌==◌, cond, List, [], ◌∷◌, ◌++◌, zero, suc}
use Rattle.object_layout.specs.declared.names.Name.{Name}
use Rattle.heap_words.specs.declared.map.Areas.{Areas}
use Rattle.heap_words.specs.Map.{page_words}
use Rattle.yak_model.specs.Placed.{space_word}
use Rattle.yak_model.specs.Plans.{Move}

-- The list of what a function gives for each index below a number.
unfoldable pub table_of : {A : Type 0} → (ℕ → A) → ℕ → List A
table_of f zero = []
table_of f (suc n) = table_of f n ++ f n ∷ []

-- The names of a page after the first moves of a slide: a page of the space is emptied, and each moved object comes behind
-- those that came before.
unfoldable pub names_after : Areas → ℕ → List (List ℕ) → (ℕ → List Name) → ℕ → (ℕ → Move) → (ℕ → Name) → ℕ → List Name
names_after m slid table old zero moves named p = cond (space_word table p == slid) [] (old p)
names_after m slid table old (suc k) moves named p = cond ((moves k).new / page_words m == p) (names_after m slid table old k moves named p ++ named k ∷ []) (names_after m slid table old k moves named p)
