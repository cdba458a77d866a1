-- Lists of objects of which some lose their space.
use Rattle.std.proofs.Common.{◌≡◌, ◌≢◌, ◌⊎◌, ℕ, zero, suc, ◌<◌, List, [], ◌∷◌, ◌++◌, length, get_or, set, take, drop, map, refl, ◌∙◌, ap, sym, inl, inr, arith, Option, Some, None}
use Rattle.std.proofs.lemmas.List.{get_or_default}
use Rattle.std.specs.FinMap.{find}
use Rattle.object_layout.specs.declared.names.Name.{Name}
use Rattle.epoch_lattice.specs.declared.Space.{Space}
use Rattle.yak_model.specs.Names.{name_cmp}
use Rattle.yak_model.specs.Kept.{AreDistinct, Kept, name_at, nobody, settled, target_at}
use Rattle.yak_model.proofs.Names.{find_same, find_other, same_or_other}

pub set_settled : (first : List Kept) (homes : List (Option Space)) (i : ℕ) (home : Space) (new : Kept) → i < length first → get_or homes i None ≡ Some home → new ≡ record (get_or first i nobody) { home = home }
    → set (take (suc i) first ++ settled (drop (suc i) first) (drop (suc i) homes)) i new ≡ take i first ++ settled (drop i first) (drop i homes)
set_settled [] homes i home new lt e q = absurd (omega arith)
set_settled (o ∷ rest) [] i home new lt e q = cc
set_settled (o ∷ rest) (x ∷ homes) zero home new lt e q =
    ap (λ k. k ∷ settled rest homes) q ∙ sym (ap (λ y. settled (o ∷ rest) (y ∷ homes)) e)
set_settled (o ∷ rest) (x ∷ homes) (suc i) home new lt e q = ap (λ k. o ∷ k) (set_settled rest homes i home new (omega arith) e q)

front_same : (first tail : List Kept) (j : ℕ) (d : Kept) → j < length first → get_or (take (suc j) first ++ tail) j d ≡ get_or first j d
front_same [] tail j d lt = absurd (omega arith)
front_same (o ∷ rest) tail zero d lt = refl
front_same (o ∷ rest) tail (suc j) d lt = front_same rest tail j d (omega arith)

pub settle_step : (first xs : List Kept) (homes : List (Option Space)) (j : ℕ) (home : Space) (old new : Kept) → j < length first
    → xs ≡ take (suc j) first ++ settled (drop (suc j) first) (drop (suc j) homes)
    → get_or homes j None ≡ Some home → old ≡ get_or xs j old → new ≡ record old { home = home }
    → set xs j new ≡ take j first ++ settled (drop j first) (drop j homes)
settle_step first xs homes j home old new lt so_far e is now =
    let same : old ≡ get_or first j nobody =
    is ∙ ap (λ l. get_or l j old) so_far ∙ front_same first _ j old lt ∙ get_or_default first j old nobody lt in
    ap (λ l. set l j new) so_far ∙ set_settled first homes j home new lt e (now ∙ ap (λ (o : Kept). record o { home = home }) same)

pub tail_distinct : (o : Kept) (rest : List Kept) → AreDistinct (o ∷ rest) → AreDistinct rest
tail_distinct o rest distinct i j h k e =
    let q : suc i ≡ suc j = distinct (suc i) (suc j) (omega arith) (omega arith) e in omega arith

pub head_differs : (o : Kept) (rest : List Kept) → AreDistinct (o ∷ rest) → (i : ℕ) → i < length rest → name_at rest i ≢ o.name
head_differs o rest distinct i h e =
    let q : suc i ≡ 0 = distinct (suc i) 0 (omega arith) (omega arith) e in absurd (omega arith)

-- what a look-up finds
module _ {X : Type 0} (f : Kept → X) where
  pub find_absent : (objects : List Kept) (name : Name) → ((i : ℕ) → i < length objects → name_at objects i ≢ name) → find name_cmp name (map (λ k. (k.name, f k)) objects) ≡ None
  find_absent [] name h = refl
  find_absent (o ∷ rest) name h =
      find_other name o.name (f o) _ (λ e. h 0 (omega arith) (sym e)) ∙ find_absent rest name (λ i lt. h (suc i) (omega arith))

  pub find_place : (objects : List Kept) → AreDistinct objects → (i : ℕ) → i < length objects → find name_cmp (name_at objects i) (map (λ k. (k.name, f k)) objects) ≡ Some (f (get_or objects i nobody))
  find_place [] distinct i h = absurd (omega arith)
  find_place (o ∷ rest) distinct zero h = find_same o.name o.name (f o) _ refl
  find_place (o ∷ rest) distinct (suc i) h =
      find_other (name_at rest i) o.name (f o) _ (head_differs o rest distinct i (omega arith)) ∙ find_place rest (tail_distinct o rest distinct) i (omega arith)

  pub absent_settled : (objects : List Kept) (homes : List (Option Space)) (name : Name) → ((i : ℕ) → i < length objects → name_at objects i ≢ name) → find name_cmp name (map (λ k. (k.name, f k)) (settled objects homes)) ≡ None
  absent_settled [] homes name h = refl
  absent_settled (o ∷ rest) [] name h = refl
  absent_settled (o ∷ rest) (None ∷ homes) name h = absent_settled rest homes name (λ i lt. h (suc i) (omega arith))
  absent_settled (o ∷ rest) (Some home ∷ homes) name h =
      find_other name o.name (f (record o { home = home })) _ (λ e. h 0 (omega arith) (sym e)) ∙ absent_settled rest homes name (λ i lt. h (suc i) (omega arith))

  abbrev pub found : Option Space → Kept → Option X
  found None o = None
  found (Some home) o = Some (f (record o { home = home }))

  pub place_settled : (objects : List Kept) (homes : List (Option Space)) → AreDistinct objects → length homes ≡ length objects → (i : ℕ) → i < length objects → find name_cmp (name_at objects i) (map (λ k. (k.name, f k)) (settled objects homes)) ≡ found (target_at homes i) (get_or objects i nobody)
  place_settled [] homes distinct l i h = absurd (omega arith)
  place_settled (o ∷ rest) [] distinct l i h = absurd (omega arith)
  place_settled (o ∷ rest) (None ∷ homes) distinct l zero h = absent_settled rest homes o.name (λ i lt. head_differs o rest distinct i lt)
  place_settled (o ∷ rest) (None ∷ homes) distinct l (suc i) h = place_settled rest homes (tail_distinct o rest distinct) (omega arith) i (omega arith)
  place_settled (o ∷ rest) (Some home ∷ homes) distinct l zero h = find_same o.name o.name (f (record o { home = home })) _ refl
  place_settled (o ∷ rest) (Some home ∷ homes) distinct l (suc i) h =
      find_other (name_at rest i) o.name (f (record o { home = home })) _ (head_differs o rest distinct i (omega arith))
      ∙ place_settled rest homes (tail_distinct o rest distinct) (omega arith) i (omega arith)

-- the place of a name, if it has one
pub place_or_none : (objects : List Kept) (name : Name) → ((i : ℕ) × (i < length objects) × (name_at objects i ≡ name)) ⊎ ((i : ℕ) → i < length objects → name_at objects i ≢ name)
place_or_none [] name = inr (λ i lt. absurd (omega arith))
place_or_none (o ∷ rest) name =
    elim (same_or_other o.name name) [
      | inl e ↦ inl (0, omega arith, e)
      | inr n ↦ elim (place_or_none rest name) [
        | inl p ↦ inl (suc p.0, omega (arith, p.1), p.2)
        | inr none ↦ inr (later n none)
      ]
    ]
  where
    later : (o.name ≢ name) → ((i : ℕ) → i < length rest → name_at rest i ≢ name) → (i : ℕ) → i < length (o ∷ rest) → name_at (o ∷ rest) i ≢ name
    later n none zero lt = n
    later n none (suc i) lt = none i (omega arith)
