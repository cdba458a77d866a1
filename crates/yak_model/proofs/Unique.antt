-- What an entry leads to is determined.
use Rattle.std.proofs.Common.{◌≡◌, ◌≢◌, ◌⊎◌, ◌-◌, ℕ, Bool, true, false, cond, refl, ◌∙◌, ap, sym, inl, inr, Option, Some, None, is_some}
use Rattle.std.specs.FinMap.{FinMap, get, same_map}
use Rattle.std.specs.FinSet as names
use Rattle.object_layout.specs.declared.names.Name.{Name}
use Rattle.epoch_lattice.specs.declared.Space.{Space}
use Rattle.epoch_lattice.specs.declared.Space.TheVariants.{Control}
use Rattle.epoch_lattice.specs.Lattice.{IsLeastAbove}
use Rattle.epoch_lattice.proofs.Lattice.{below-antisymmetric}
use Rattle.yak_model.specs.Names.{name_cmp}
use Rattle.yak_model.specs.Graph.{Graph, thread_of, with_depth}
use Rattle.yak_model.specs.Spaces.{Collects, EndsEpoch, Escapes, IsLive, KeepsContents, SpaceState, content_at, home_of, innermost}
use Rattle.yak_model.specs.Unique.{StatesAreUnique}
use Rattle.yak_model.proofs.Names.{name_cmp-IsAntisymmetric, name_cmp_total}
use Rattle.yak_model.proofs.Agreement.{same_or_other_space}

same_or_other_home : (a b : Option Space) → (a ≡ b) ⊎ (a ≢ b)
same_or_other_home None None = inl refl
same_or_other_home None (Some y) = inr (λ h. cc)
same_or_other_home (Some x) None = inr (λ h. cc)
same_or_other_home (Some x) (Some y) = elim (same_or_other_space x y) [ inl e ↦ inl (ap Some e) | inr n ↦ inr (λ h. n (cc)) ]

-- two homes that can't differ are equal
stable : (a b : Option Space) → ((a ≢ b) → ⊥) → a ≡ b
stable a b h = elim (same_or_other_home a b) [ inl e ↦ e | inr n ↦ absurd (h n) ]

same_least : (collection : Space → Type 0) (a b : Space) → IsLeastAbove collection a → IsLeastAbove collection b → a ≡ b
same_least collection a b h k = below-antisymmetric a b (h.least b k.above) (k.least a h.above)

pub same_maps : {X : Type 0} (m n : FinMap name_cmp X) → ((q : Name) → get m q ≡ get n q) → m ≡ n
same_maps m n h = same_map name_cmp_total name_cmp-IsAntisymmetric m n h

-- states with the same homes, that keep the contents of one state, are equal
same_states : (s first second : SpaceState) (graph : Graph) → ((name : Name) → home_of first name ≡ home_of second name) → KeepsContents s first → KeepsContents s second
    → first.graph ≡ record graph { objects = first.graph.objects } → second.graph ≡ record graph { objects = second.graph.objects } → first ≡ second
same_states s first second graph homes keep hold rest more =
    let objects : first.graph.objects ≡ second.graph.objects =
    same_maps _ _ (λ name. keep name ∙ ap (λ o. cond (is_some o) (content_at s.graph name) None) (homes name) ∙ sym (hold name)) in
    let graphs : first.graph ≡ second.graph = rest ∙ ap (λ o. record graph { objects = o }) objects ∙ sym more in
    let places : first.home ≡ second.home = same_maps _ _ homes in
    λ i. record { graph = graphs i; home = places i }

collection_unique : (s first second : SpaceState) → Collects s first → Collects s second → first ≡ second
collection_unique s first second a b = same_states s first second s.graph homes a.contents b.contents a.rest b.rest
  where
    homes : (name : Name) → home_of first name ≡ home_of second name
    homes name = stable _ _ (λ differ.
        elim (same_or_other_home (home_of s name) (Some Control)) [
          | inl e ↦
              let dead : IsLive s name → ⊥ = λ live. differ (a.live name live ∙ sym (b.live name live)) in
              differ (a.dropped name e dead ∙ sym (b.dropped name e dead))
          | inr n ↦ differ (a.outside name n ∙ sym (b.outside name n))
        ])

end_unique : (s : SpaceState) (t moved number : ℕ) (tight : Bool) (first second : SpaceState) → EndsEpoch s t moved tight first → EndsEpoch s t number tight second → (first ≡ second) × (moved ≡ number)
end_unique s t moved number tight first second a b =
    (same_states s first second (with_depth s.graph t ((thread_of s.graph t).depth - 1)) homes a.contents b.contents a.rest b.rest, a.count.2 ∙ ap names.len same_sets ∙ sym b.count.2)
  where
    target_same : (name : Name) → Escapes s t (innermost s.graph t) name → home_of first name ≡ home_of second name
    target_same name h =
        let x = a.escaping name h in
        let y = b.escaping name h in
        x.2 ∙ ap (λ target. Some (cond tight Control target)) (same_least _ x.0 y.0 x.1 y.1) ∙ sym y.2

    homes : (name : Name) → home_of first name ≡ home_of second name
    homes name = stable _ _ (λ differ.
        elim (same_or_other_home (home_of s name) (Some (innermost s.graph t))) [
          | inl e ↦
              let stays : Escapes s t (innermost s.graph t) name → ⊥ = λ h. differ (target_same name h) in
              differ (a.dropped name e stays ∙ sym (b.dropped name e stays))
          | inr n ↦ differ (a.outside name n ∙ sym (b.outside name n))
        ])

    both_ways : (p q : Bool) → (p ≡ true → q ≡ true) → (q ≡ true → p ≡ true) → p ≡ q
    both_ways true q f g = sym (f refl)
    both_ways false true f g = g refl
    both_ways false false f g = refl

    same_sets : a.count.0 ≡ b.count.0
    same_sets = names.same_set name_cmp_total name_cmp-IsAntisymmetric _ _ (λ q. both_ways _ _ (λ h. (b.count.1 q).1 ((a.count.1 q).0 h)) (λ h. (a.count.1 q).1 ((b.count.1 q).0 h)))

pub states_unique : StatesAreUnique
states_unique = record { collection = collection_unique; end = end_unique }
