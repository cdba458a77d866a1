-- Three stores fill in an entry.
use Rattle.std.proofs.Common.{◌≡◌, ℕ, List, [], ◌∷◌, get_or, set, refl, ◌∙◌, ap, subst, length, arith}
use Rattle.std.specs.FinMap.{insert}
use Rattle.object_layout.specs.declared.names.Name.{Name}
use Rattle.yak_model.specs.declared.datum.Datum.{Datum}
use Rattle.yak_model.specs.declared.datum.Datum.TheVariants as datum
use Rattle.yak_model.specs.Graph.{Fields, Thread}
use Rattle.yak_model.specs.Private.{KnownObjects}
use Rattle.yak_model.proofs.Names.{get-same}
use Rattle.heap_tables.specs.Runs.{with_field}
use Rattle.heap_tables.proofs.Effects.{IsAt}
use Rattle.heap_tables.specs.Adds.{with_fields}
use Rattle.heap_tables.proofs.Places.{insert_again}

-- the object in its slot after a store into it
pub stored_at : (own after : Thread) (known : KnownObjects) (i : ℕ) (name : Name) (values : List Datum) (f : ℕ) (v : Datum) → after ≡ own → IsAt own known i name values → IsAt after (with_field known name values f v) i name (set values f v)
stored_at own after known i name values f v e h = (ap (λ (o : Thread). get_or o.stack i datum.Null) e ∙ h.0, get-same known name (Fields (set values f v)))

pub three : (values : List Datum) (a b c : Datum) → length values ≡ 3 → set (set (set values 0 a) 1 b) 2 c ≡ a ∷ b ∷ c ∷ []
three [] a b c h = absurd (omega (arith, h))
three (x ∷ []) a b c h = absurd (omega (arith, h))
three (x ∷ y ∷ []) a b c h = absurd (omega (arith, h))
three (x ∷ y ∷ z ∷ []) a b c h = refl
three (x ∷ y ∷ z ∷ w ∷ rest) a b c h = absurd (omega (arith, h))

pub filled : (known : KnownObjects) (name : Name) (values : List Datum) (a b : Datum) (n : ℕ) (knows : KnownObjects → Type 0) → length values ≡ 3
    → knows (with_field (with_field (with_field known name values 0 a) name (set values 0 a) 1 b) name (set (set values 0 a) 1 b) 2 (datum.Int n)) → knows (with_fields known name a b n)
filled known name values a b n knows h k =
    subst knows (insert_again (with_field known name values 0 a) name _ _ ∙ insert_again known name _ _ ∙ ap (λ vs. insert known name (Fields vs)) (three values a b (datum.Int n) h)) k
