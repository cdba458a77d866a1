-- What is closed stays closed where objects get other homes.
use Rattle.std.proofs.Common.{ℕ, ◌≤◌, Option, Some, None, IsSome, List, length, get_or, refl, sym, subst}
use Rattle.std.specs.List.{All}
use Rattle.object_layout.specs.declared.names.Name.{Name}
use Rattle.object_layout.specs.declared.TheConstants.{MAX_FIELDS}
use Rattle.yak_model.specs.declared.datum.Datum.{Datum}
use Rattle.yak_model.specs.declared.datum.Datum.TheVariants.{Int, Null, Object}
use Rattle.yak_model.specs.State.{IsClosed, IsDatum, State, Thing}
use Rattle.yak_model.specs.Plans.{Move, after_moves, rehomed}
use Rattle.relocation.proofs.Lawful.{before_moves}

datum_as : (f g : Name → Option Thing) → ((n : Name) → IsSome (f n) → IsSome (g n)) → (d : Datum) → IsDatum f d → IsDatum g d
datum_as f g to Null h = tt
datum_as f g to (Int i) h = h
datum_as f g to (Object n) h = to n h

all_as : {X : Type 0} (P Q : X → Type 0) (xs : List X) → ((x : X) → P x → Q x) → All P xs → All Q xs
all_as P Q xs to h k d lt = to (get_or xs k d) (h k d lt)

some_rehomed : (count : ℕ) (moves : ℕ → Move) (a : ℕ) (x : Option Thing) → IsSome x → IsSome (rehomed count moves a x)
some_rehomed count moves a None h = h
some_rehomed count moves a (Some o) h = refl

pub closed_after : (count : ℕ) (moves : ℕ → Move) (at : Name → ℕ) (s : State) → IsClosed s → IsClosed (after_moves count moves at s)
closed_after count moves at s h =
    let to : (n : Name) → IsSome (s.objects n) → IsSome (rehomed count moves (at n) (s.objects n)) = λ n. some_rehomed count moves (at n) (s.objects n) in
    let datum : (d : Datum) → IsDatum s.objects d → IsDatum (λ n. rehomed count moves (at n) (s.objects n)) d = datum_as s.objects (λ n. rehomed count moves (at n) (s.objects n)) to in
    record {
      stacks = all_as (All (IsDatum s.objects)) (All (IsDatum (λ n. rehomed count moves (at n) (s.objects n)))) s.stacks (λ st. all_as (IsDatum s.objects) (IsDatum (λ n. rehomed count moves (at n) (s.objects n))) st datum) h.stacks;
      fields = λ n p e.
          let b = before_moves count moves (at n) (s.objects n) p e in
          let f = h.fields n b.0 b.1 in
          subst (λ (x : Thing). All (IsDatum (λ n. rehomed count moves (at n) (s.objects n))) x.fields × (length x.fields ≤ MAX_FIELDS)) (sym b.2) (all_as (IsDatum s.objects) (IsDatum (λ n. rehomed count moves (at n) (s.objects n))) b.0.fields datum f.0, f.1);
    }
