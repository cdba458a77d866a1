-- A state with other homes, made from one and a function that gives the homes.
use Rattle.std.proofs.Common.{◌≡◌, ◌≢◌, ℕ, Option, Some, None, IsSome, is_some, cond, true≢false, List, [], ◌∷◌, refl, sym, ap, subst, ◌∙◌}
use Rattle.std.specs.FinMap.{find, entries, from_entries, get-entries, get-from_entries}
use Rattle.std.proofs.Math.Logic.{⊎_elim}
use Rattle.object_layout.specs.declared.names.Name.{Name}
use Rattle.epoch_lattice.specs.declared.Space.{Space}
use Rattle.epoch_lattice.specs.Lattice.{IsValid}
use Rattle.yak_model.specs.Names.{name_cmp}
use Rattle.yak_model.specs.Graph.{Content, Graph}
use Rattle.yak_model.specs.Spaces.{IsPresent, KeepsContents, SpaceState, content_at, home_of}
use Rattle.yak_model.specs.State.{object_of, thing_of}
use Rattle.yak_model.specs.Stands.{IsWhole}
use Rattle.yak_model.proofs.Names.{name_cmp_total, find_same, find_other, same_or_other}
use Rattle.forwarding.specs.Reshaped.{Reshaped}

-- what a function makes of an entry whose name is given a home
abbrev made : {X Y : Type 0} → (Space → X → Y) → Option Space → Option X → Option Y
made f None x = None
made f (Some home) None = None
made f (Some home) (Some x) = Some (f home x)

abbrev before : {Y : Type 0} → Name → Option Y → List (Name × Y) → List (Name × Y)
before n None rest = rest
before n (Some y) rest = (n, y) ∷ rest

-- the entries of the names that are given a home
picked : {X Y : Type 0} → (Space → X → Y) → (Name → Option Space) → List (Name × X) → List (Name × Y)
picked f given [] = []
picked f given (e ∷ es) = before e.0 (made f (given e.0) (Some e.1)) (picked f given es)

made-none : {X Y : Type 0} (f : Space → X → Y) (home : Option Space) → made f home None ≡ None
made-none f None = refl
made-none f (Some home) = refl

find-before : {Y : Type 0} (q n : Name) (y : Option Y) (rest : List (Name × Y)) → q ≢ n → find name_cmp q (before n y rest) ≡ find name_cmp q rest
find-before q n None rest other = refl
find-before q n (Some y) rest other = find_other q n y rest other

find-own : {X Y : Type 0} (f : Space → X → Y) (home : Option Space) (x : X) (later : Option X) (q n : Name) (rest : List (Name × Y)) → q ≡ n → find name_cmp q rest ≡ made f home later → find name_cmp q (before n (made f home (Some x)) rest) ≡ made f home (Some x)
find-own f None x later q n rest same e = e
find-own f (Some home) x later q n rest same e = find_same q n (f home x) rest same

find-picked : {X Y : Type 0} (f : Space → X → Y) (given : Name → Option Space) (es : List (Name × X)) (q : Name) → find name_cmp q (picked f given es) ≡ made f (given q) (find name_cmp q es)
unfolding picked
find-picked f given [] q = sym (made-none f (given q))
find-picked f given (e ∷ es) q = ⊎_elim
    (λ (same : q ≡ e.0).
    let home : given e.0 ≡ given q = ap given (sym same) in
    let found = find_same q e.0 e.1 es same in
    ap (λ h. find name_cmp q (before e.0 (made f h (Some e.1)) (picked f given es))) home
    ∙ find-own f (given q) e.1 (find name_cmp q es) q e.0 (picked f given es) same (find-picked f given es q)
    ∙ ap (made f (given q)) (sym found))
    (λ (other : q ≢ e.0). find-before q e.0 (made f (given e.0) (Some e.1)) (picked f given es) other ∙ find-picked f given es q ∙ ap (made f (given q)) (sym (find_other q e.0 e.1 es other)))
    (same_or_other q e.0)

made-home : {X : Type 0} (home : Option Space) (x : Option X) → (IsSome home → IsSome x) → made (λ h y. h) home x ≡ home
made-home None x some = refl
made-home (Some home) None some = absurd (true≢false (sym (some refl)))
made-home (Some home) (Some x) some = refl

made-content : {X : Type 0} (home : Option Space) (x : Option X) → made (λ h y. y) home x ≡ cond (is_some home) x None
made-content None x = refl
made-content (Some home) None = refl
made-content (Some home) (Some x) = refl

pub reshape : (s : SpaceState) (given : Name → Option Space) → ((n : Name) → IsSome (given n) → IsPresent s n) → (after : SpaceState) × Reshaped s given after
reshape s given present =
    let objects = from_entries {R = name_cmp} (picked (λ h (c : Content). c) given (entries s.graph.objects)) in
    let home = from_entries {R = name_cmp} (picked (λ h (x : Space). h) given (entries s.home)) in
    let after : SpaceState = record { graph = record s.graph { objects = objects }; home = home } in
    let homes : (n : Name) → home_of after n ≡ given n = λ n.
    get-from_entries name_cmp_total (picked (λ h (x : Space). h) given (entries s.home)) n
    ∙ find-picked (λ h (x : Space). h) given (entries s.home) n
    ∙ ap (made (λ h (x : Space). h) (given n)) (sym (get-entries s.home n))
    ∙ made-home (given n) (home_of s n) (present n) in
    let contents : KeepsContents s after = λ n.
    get-from_entries name_cmp_total (picked (λ h (c : Content). c) given (entries s.graph.objects)) n
    ∙ find-picked (λ h (c : Content). c) given (entries s.graph.objects) n
    ∙ ap (made (λ h (c : Content). c) (given n)) (sym (get-entries s.graph.objects n))
    ∙ made-content (given n) (content_at s.graph n)
    ∙ ap (λ h. cond (is_some h) (content_at s.graph n) None) (sym (homes n)) in
    (after, record { homes = homes; contents = contents; rest = refl })

thing-kept : (home : Option Space) (content : Option Content) → thing_of home (cond (is_some home) content None) ≡ thing_of home content
thing-kept None content = refl
thing-kept (Some home) content = refl

-- the objects of a reshaped state
pub reshaped-objects : (s : SpaceState) (given : Name → Option Space) (after : SpaceState) → Reshaped s given after → (n : Name) → object_of after n ≡ thing_of (given n) (content_at s.graph n)
reshaped-objects s given after r n =
    ap (thing_of (home_of after n)) (r.contents n)
    ∙ ap (λ h. thing_of h (cond (is_some h) (content_at s.graph n) None)) (r.homes n)
    ∙ thing-kept (given n) (content_at s.graph n)

some-kept : (home : Option Space) (was : Option Space) (content : Option Content) → (IsSome home → IsSome was) → is_some content ≡ is_some was → is_some (cond (is_some home) content None) ≡ is_some home
some-kept None was content some e = refl
some-kept (Some home) None content some e = absurd (true≢false (sym (some refl)))
some-kept (Some home) (Some was) content some e = e

-- a reshaped state is whole
pub reshaped-whole : (s : SpaceState) (given : Name → Option Space) (after : SpaceState) → IsWhole s → ((n : Name) (x : Space) → given n ≡ Some x → IsValid s.graph.limits.depth x) → Reshaped s given after → ((n : Name) → IsSome (given n) → IsPresent s n) → IsWhole after
reshaped-whole s given after whole valid r present =
    let limits : after.graph.limits ≡ s.graph.limits = ap (λ (g : Graph). g.limits) r.rest in
    record {
      limits = limits ∙ whole.limits;
      contents = λ n.
          ap is_some (r.contents n)
          ∙ ap (λ h. is_some (cond (is_some h) (content_at s.graph n) None)) (r.homes n)
          ∙ some-kept (given n) (home_of s n) (content_at s.graph n) (present n) (whole.contents n)
          ∙ ap is_some (sym (r.homes n));
      homes = λ n x e. subst (λ (d : ℕ). IsValid d x) (sym (ap (λ l. l.depth) limits)) (valid n x (sym (r.homes n) ∙ e));
    }
