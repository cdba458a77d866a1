-- The words of present objects, summed over their homes, and bounds on such sums.
use Rattle.std.proofs.Common.{◌≡◌, ℕ, suc, ◌+◌, ◌*◌, ◌-◌, ◌<◌, ◌≤◌, List, [], ◌∷◌, Bool, true, false, true≢false, cond, length, get_or, map, refl, ◌∙◌, arith, ap, sym, subst, Option, Some, None, is_some, Result, Ok, Err, IfOk}
use Rattle.std.proofs.lemmas.List.Sums.{sum_by-cons}
use Rattle.std.specs.List.{sum_by}
use Rattle.std.specs.FinMap as finite
use Rattle.std.specs.FinMap.{find, put}
use Rattle.std.specs.FinSet as names
use Rattle.std.specs.Ordering.{is_eq, match_ordering}
use Rattle.std.specs.declared.cmp.Ordering.TheVariants.{Less, Equal, Greater}
use Rattle.object_layout.specs.declared.names.Name.{Name}
use Rattle.object_layout.specs.declared.TheConstants.{MAX_SERIAL, PAGE_WORDS}
use Rattle.epoch_lattice.specs.declared.Space.{Space}
use Rattle.yak_model.specs.declared.datum.Datum.TheVariants as datum
use Rattle.yak_model.specs.declared.homes.Home.{Home}
use Rattle.yak_model.specs.declared.TheConstants.{MOST_WORDS}
use Rattle.yak_model.specs.Names.{name_cmp}
use Rattle.yak_model.specs.Graph.{Content, Fields, Graph, Limits, Thread, fields_at, fields_of, idle, size_of}
use Rattle.yak_model.specs.Kept.{AreDistinct, AreSmall, IsJoinOf, IsListReached, Kept, name_at, nobody, state_of, target_at, target_words}
use Rattle.yak_model.specs.Lawful.{HasWords, control_words, is_control, region_words}
use Rattle.yak_model.specs.Machine.{IsSound, contents_of, control_size, home_name, kept_of, region_size, shown_state, size_at}
use Rattle.yak_model.specs.Spaces.{Escapes, SpaceState, home_of}
use Rattle.yak_model.proofs.Collected.{home_of_place}
use Rattle.yak_model.proofs.Escaped.{is_with_target, target_members, with_target}
use Rattle.yak_model.proofs.Names.{name_cmp_total}
use Rattle.yak_model.proofs.Parts.{as_long, at, kept_distinct, same_state}
use Rattle.yak_model.proofs.Settled.{find_absent, head_differs, tail_distinct}

-- ---- bounds

pub sum_most : {X : Type 0} (f : X → ℕ) → ((x : X) → f x ≤ PAGE_WORDS) → (xs : List X) → sum_by f xs ≤ PAGE_WORDS * length xs
sum_most f each [] = omega arith
sum_most f each (x ∷ xs) = omega (arith, each x, sum_most f each xs, sum_by-cons f x xs)

made_most : (threads : List Thread) → ((i : ℕ) → (get_or threads i idle).made ≤ MAX_SERIAL) → sum_by (λ (t : Thread). t.made) threads ≤ MAX_SERIAL * length threads
made_most [] each = omega arith
made_most (t ∷ threads) each = omega (arith, each 0, made_most threads (λ i. each (suc i)), sum_by-cons (λ (t : Thread). t.made) t threads)

pub few_homes : (g : Graph) (homes : List Home) → IsSound g homes → PAGE_WORDS * length homes ≤ MOST_WORDS
few_homes g homes sound =
    let each : (i : ℕ) → (get_or g.threads i idle).made ≤ MAX_SERIAL = λ i. subst (λ (k : ℕ). (get_or g.threads k idle).made ≤ MAX_SERIAL) (let e : i + 1 - 1 ≡ i = omega arith in e) (sound.serials (i + 1)) in
    omega (arith, sound.few, made_most g.threads each, sound.threads)

part_most : (b : Bool) (n : ℕ) → n ≤ PAGE_WORDS → cond b n 0 ≤ PAGE_WORDS
part_most true n h = h
part_most false n h = omega arith

other_most : (b : Bool) (n : ℕ) → n ≤ PAGE_WORDS → cond b 0 n ≤ PAGE_WORDS
other_most true n h = omega arith
other_most false n h = h

pub control_most : (g : Graph) (homes : List Home) → IsSound g homes → sum_by (control_size g) homes ≤ MOST_WORDS
control_most g homes sound =
    omega (arith, few_homes g homes sound, sum_most (control_size g) (λ h. part_most (is_control (Some h.space)) (size_at g h.name) (sound.fits h.name)) homes)

pub region_most : (g : Graph) (homes : List Home) → IsSound g homes → sum_by (region_size g) homes ≤ MOST_WORDS
region_most g homes sound =
    omega (arith, few_homes g homes sound, sum_most (region_size g) (λ h. other_most (is_control (Some h.space)) (size_at g h.name) (sound.fits h.name)) homes)

-- ---- the entries of a map from a list

sum-put : {X : Type 0} (f : Name × X → ℕ) (k : Name) (v : X) (es : List (Name × X)) → find name_cmp k es ≡ None → sum_by f (put name_cmp k v es) ≡ f (k, v) + sum_by f es
sum-put f k v [] none = sum_by-cons f (k, v) []
sum-put {X = X} f k v (e ∷ es) none =
    elim (name_cmp k e.0) as (λ r. cond (is_eq r) (Some e.1) (find name_cmp k es) ≡ None → sum_by f (match_ordering r ((k, v) ∷ e ∷ es) ((e.0, v) ∷ es) (e ∷ put name_cmp k v es)) ≡ f (k, v) + sum_by f (e ∷ es)) [
      | Less ↦ λ n. sum_by-cons f (k, v) (e ∷ es)
      | Equal ↦ λ n. absurd (true≢false (ap is_some n))
      | Greater ↦ λ n. omega (arith, sum_by-cons f e (put name_cmp k v es), sum-put f k v es n, sum_by-cons f e es)
    ] none

no_entries : {X : Type 0} (es : List X) → length es ≡ 0 → es ≡ []
no_entries [] e = refl
no_entries (x ∷ es) e = absurd (omega (arith, e))

sum-kept : (f : Name × Content → ℕ) (objects : List Kept) → AreDistinct objects → sum_by f (finite.entries (finite.from_entries {R = name_cmp} (contents_of objects))) ≡ sum_by (λ (k : Kept). f (k.name, k.content)) objects
sum-kept f [] distinct = ap (sum_by f) (no_entries _ (sym (finite.len-entries (finite.empty {R = name_cmp})) ∙ finite.len-empty name_cmp Content))
sum-kept f (o ∷ rest) distinct =
    let m : finite.FinMap name_cmp Content = finite.from_entries (contents_of rest) in
    let none : find name_cmp o.name (finite.entries m) ≡ None =
    sym (finite.get-entries m o.name) ∙ finite.get-from_entries name_cmp_total (contents_of rest) o.name ∙ find_absent (λ (k : Kept). k.content) rest o.name (head_differs o rest distinct) in
    let put_in : sum_by f (finite.entries (finite.insert m o.name o.content)) ≡ f (o.name, o.content) + sum_by f (finite.entries m) =
    ap (sum_by f) (finite.entries-insert name_cmp_total m o.name o.content) ∙ sum-put f o.name o.content (finite.entries m) none in
    omega (arith, put_in, sum-kept f rest (tail_distinct o rest distinct), sum_by-cons (λ (k : Kept). f (k.name, k.content)) o rest)

sum-places : (f g : Kept → ℕ) (objects : List Kept) → ((i : ℕ) → i < length objects → f (get_or objects i nobody) ≡ g (get_or objects i nobody)) → sum_by f objects ≡ sum_by g objects
sum-places f g [] same = refl
sum-places f g (o ∷ rest) same =
    omega (arith, same 0 (omega arith), sum-places f g rest (λ i lt. same (suc i) (omega (arith, lt))), sum_by-cons f o rest, sum_by-cons g o rest)

sum-mapped : {X Y : Type 0} (g : Y → ℕ) (f : X → Y) (xs : List X) → sum_by g (map f xs) ≡ sum_by (λ (x : X). g (f x)) xs
sum-mapped g f [] = refl
sum-mapped {X} g f (x ∷ xs) = omega (arith, sum_by-cons g (f x) (map f xs), sum-mapped g f xs, sum_by-cons (λ (y : X). g (f y)) x xs)

-- ---- the words of Control and of the regions

module _ (g : Graph) (homes : List Home) (sound : IsSound g homes) where
  abbrev object_of : Home → Kept
  object_of h = record { name = h.name; home = h.space; content = Fields (fields_at g (datum.Object h.name)) }

  abbrev listed : SpaceState
  listed = state_of g.limits g.threads (kept_of g homes)

  by_home : (part : Option Space → ℕ → ℕ) → sum_by (λ (e : Name × Content). part (home_of listed e.0) (size_of e.1)) (finite.entries listed.graph.objects) ≡ sum_by (λ (h : Home). part (Some h.space) (size_at g h.name)) homes
  by_home part =
      sum-kept (λ (e : Name × Content). part (home_of listed e.0) (size_of e.1)) (kept_of g homes) (kept_distinct g homes sound)
      ∙ sum-places (λ (k : Kept). part (home_of listed k.name) (size_of k.content)) (λ (k : Kept). part (Some k.home) (size_of k.content)) (kept_of g homes)
      (λ i lt. ap (λ (o : Option Space). part o (size_of (get_or (kept_of g homes) i nobody).content)) (home_of_place g.limits g.threads (kept_of g homes) (kept_distinct g homes sound) i lt))
      ∙ sum-mapped (λ (k : Kept). part (Some k.home) (size_of k.content)) object_of homes

  pub control_sum : sum_by (control_size g) homes ≡ control_words (shown_state g homes)
  control_sum = sym (by_home (λ home size. cond (is_control home) size 0)) ∙ ap control_words (same_state g homes sound)

  pub region_sum : sum_by (region_size g) homes ≡ region_words (shown_state g homes)
  region_sum = sym (by_home (λ home size. cond (is_control home) 0 size)) ∙ ap region_words (same_state g homes sound)

-- ---- the words of the objects that escape

sum-targets : (p : Name → Bool) (objects : List Kept) (targets : List (Option Space)) → length targets ≡ length objects → ((i : ℕ) → i < length objects → p (name_at objects i) ≡ is_some (target_at targets i))
    → sum_by (λ (k : Kept). cond (p k.name) (size_of k.content) 0) objects ≡ target_words objects targets
sum-targets p [] targets count same = refl
sum-targets p (o ∷ rest) [] count same = absurd (omega (arith, count))
sum-targets p (o ∷ rest) (x ∷ targets) count same =
    let later : sum_by (λ (k : Kept). cond (p k.name) (size_of k.content) 0) rest ≡ target_words rest targets = sum-targets p rest targets (omega (arith, count)) (λ i lt. same (suc i) (omega (arith, lt))) in
    let first : cond (p o.name) (size_of o.content) 0 ≡ cond (is_some x) (size_of o.content) 0 = ap (λ (b : Bool). cond b (size_of o.content) 0) (same 0 (omega arith)) in
    omega (arith, sum_by-cons (λ (k : Kept). cond (p k.name) (size_of k.content) 0) o rest, later, first)

pub escape_sum : (limits : Limits) (threads : List Thread) (objects : List Kept) (distinct : AreDistinct objects) (t : ℕ) (region : Space) (targets : List (Option Space)) → length targets ≡ length objects
    → ((i : ℕ) → i < length objects → IsJoinOf (IsListReached threads objects t region (name_at objects i)) (target_at targets i))
    → HasWords (state_of limits threads objects) (Escapes (state_of limits threads objects) t region) (target_words objects targets)
escape_sum limits threads objects distinct t region targets count join =
    let all = with_target objects targets in
    let whole : sum_by (λ (e : Name × Content). cond (names.contains all e.0) (size_of e.1) 0) (finite.entries (finite.from_entries {R = name_cmp} (contents_of objects))) ≡ target_words objects targets =
    sum-kept (λ (e : Name × Content). cond (names.contains all e.0) (size_of e.1) 0) objects distinct
    ∙ sum-targets (names.contains all) objects targets count (is_with_target objects targets distinct count) in
    (all, target_members limits threads objects distinct t region targets count join, sym whole)

-- ---- the objects of a sound graph are small

pub kept_small : (g : Graph) (homes : List Home) → IsSound g homes → AreSmall (kept_of g homes)
kept_small g homes sound =
    let long : length (kept_of g homes) ≡ length homes = as_long g homes sound in
    record {
      fits = λ i lt.
          let same = ap (λ (k : Kept). length (fields_of k.content)) (at g homes sound i (omega (arith, lt, long))) in
          omega (arith, same, sound.fits (home_name homes i));
      few = omega (arith, long, few_homes g homes sound);
    }

pub if_ok : {T E : Type 0} (P Q : T → Type 0) (r : Result T E) → ((x : T) → P x → Q x) → IfOk r P → IfOk r Q
if_ok P Q (Ok x) f p = f x p
if_ok P Q (Err e) f p = tt
