-- Walks over the objects of a page, one after another.
use Rattle.std.specs.Prelude.{◌≡◌, ℕ, ◌≤◌, ◌<◌, take, sum_by, length}
use Rattle.object_layout.specs.declared.names.Name.{Name}
use Rattle.yak_model.specs.Placed.{IsAt, names_of, size_by}
use Rattle.heap_walks.specs.Laid.{Laid}

-- A walk over a page has come to an offset, which is where the first objects of the page end, and a fact holds of them.
pub record IsWalked (h : Laid) (fact : Name → Type 0) (page offset : ℕ) : Type 0 where
  -- how many objects are passed
  pub place : ℕ
  pub within : place ≤ length (names_of h.places page)
  pub offset_is : offset ≡ sum_by (size_by h.state.objects) (take place (names_of h.places page))
  pub passed : (n : Name) (k : ℕ) → k < place → IsAt h.places n page k → fact n

-- A fact holds of all objects of a page.
abbrev pub IsPagePassed : Laid → (Name → Type 0) → ℕ → Type 0
IsPagePassed h fact page = (n : Name) (k : ℕ) → IsAt h.places n page k → fact n
