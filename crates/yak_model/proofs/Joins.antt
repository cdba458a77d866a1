-- Joins of collections of spaces.
use Rattle.std.proofs.Common.{◌≡◌, ◌≢◌, ◌⊎◌, ◌↔◌, ℕ, ◌+◌, ◌-◌, ◌<◌, ◌≤◌, List, Bool, true, false, true≢false, cond, length, get_or, refl, ◌∙◌, ap, sym, subst, inl, inr, arith, Option, Some, None}
use Rattle.std.specs.List.{Contains}
use Rattle.object_layout.specs.declared.names.Name.{Name}
use Rattle.epoch_lattice.specs.declared.TheConstants.{MAX_DEPTH}
use Rattle.epoch_lattice.specs.declared.Space.{Space}
use Rattle.epoch_lattice.specs.Lattice.{IsBelow, IsValid, join_of}
use Rattle.epoch_lattice.proofs.Lattice.{below-transitive, join-above, join-closed, join-commutative, join-least}
use Rattle.yak_model.specs.declared.datum.Datum.TheVariants as datum
use Rattle.yak_model.specs.Graph.{Thread, fields_of, idle}
use Rattle.yak_model.specs.Kept.{IsFieldSource, IsHeldBy, IsJoinOf, IsTargetValid, Kept, home_at, joined, nobody}
use Rattle.yak_model.proofs.Held.{thread_is}
use Rattle.yak_model.proofs.Marks.{place_is, same_or_other_place}
use Rattle.yak_model.proofs.Targets.{below_itself}

pub join_map : (C D : Space → Type 0) → ((s : Space) → C s → D s) → ((s : Space) → D s → C s) → (o : Option Space) → IsJoinOf C o → IsJoinOf D o
join_map C D f g None h = λ s d. h s (g s d)
join_map C D f g (Some top) h =
    (record { above = λ s d. h.0.above s (g s d); least = λ other all. h.0.least other (λ s c. all s (f s c)) }, (h.1.0, f h.1.0 h.1.1))

pub join_added : (C : Space → Type 0) (acc : Option Space) (x : Space) → IsJoinOf C acc → IsJoinOf (λ s. C s ⊎ (x ≡ s)) (Some (joined acc x))
join_added C None x h = (
  record {
    above = λ s d. elim d [ inl c ↦ absurd (h s c) | inr e ↦ subst (λ z. IsBelow z x) e (below_itself x) ];
    least = λ other all. all x (inr refl);
  },
  (x, inr refl),
)
join_added C (Some top) x h = (
  record {
    above = λ s d. elim d [
      | inl c ↦ below-transitive s top (join_of top x) (h.0.above s c) (join-above top x)
      | inr e ↦ subst (λ z. IsBelow z (join_of top x)) e (subst (IsBelow x) (join-commutative x top) (join-above x top))
    ];
    least = λ other all. join-least top x other (h.0.least other (λ s c. all s (inl c))) (all x (inr refl));
  },
  (x, inr refl),
)

pub join_if : (C : Space → Type 0) (P : Type 0) (acc : Option Space) (x : Space) (b : Bool) → IsJoinOf C acc → (b ≡ true → P) → (P → b ≡ true) → IsJoinOf (λ s. C s ⊎ (P × (x ≡ s))) (cond b (Some (joined acc x)) acc)
join_if C P acc x true h f g =
    join_map (λ s. C s ⊎ (x ≡ s)) (λ s. C s ⊎ (P × (x ≡ s)))
    (λ s d. elim d [ inl c ↦ inl c | inr e ↦ inr (f refl, e) ]) (λ s d. elim d [ inl c ↦ inl c | inr e ↦ inr e.1 ]) (Some (joined acc x)) (join_added C acc x h)
join_if C P acc x false h f g =
    join_map C (λ s. C s ⊎ (P × (x ≡ s))) (λ s c. inl c) (λ s d. elim d [ inl c ↦ c | inr e ↦ absurd (true≢false (sym (g e.0))) ]) acc h

joined_valid : (acc : Option Space) (x : Space) → IsTargetValid acc → IsValid MAX_DEPTH x → IsValid MAX_DEPTH (joined acc x)
joined_valid None x h k = k
joined_valid (Some a) x h k = join-closed MAX_DEPTH a x h k

pub valid_if : (acc : Option Space) (x : Space) (b : Bool) → IsTargetValid acc → IsValid MAX_DEPTH x → IsTargetValid (cond b (Some (joined acc x)) acc)
valid_if acc x true h k = joined_valid acc x h k
valid_if acc x false h k = h

pub field_more : (objects : List Kept) (region : Space) (name : Name) (n : ℕ) (kept : Kept) → n < length objects → kept ≡ get_or objects n kept → (acc : Option Space) (b : Bool)
    → (b ≡ true) ↔ (kept.home ≢ region) × Contains (fields_of kept.content) (datum.Object name)
    → IsJoinOf (IsFieldSource objects region name n) acc → IsJoinOf (IsFieldSource objects region name (n + 1)) (cond b (Some (joined acc kept.home)) acc)
field_more objects region name n kept lt is acc b test h =
    join_map (λ s. IsFieldSource objects region name n s ⊎ (((kept.home ≢ region) × Contains (fields_of kept.content) (datum.Object name)) × (kept.home ≡ s))) (IsFieldSource objects region name (n + 1)) forth back (cond b (Some (joined acc kept.home)) acc) (join_if (IsFieldSource objects region name n) ((kept.home ≢ region) × Contains (fields_of kept.content) (datum.Object name)) acc kept.home b h test.0 test.1)
  where
    place : kept ≡ get_or objects n nobody
    place = sym (place_is objects n kept kept lt is refl)

    forth : (s : Space) → IsFieldSource objects region name n s ⊎ (((kept.home ≢ region) × Contains (fields_of kept.content) (datum.Object name)) × (kept.home ≡ s)) → IsFieldSource objects region name (n + 1) s
    forth s d = elim d [
      | inl old ↦ (old.0, omega (arith, old.1), old.2, old.3, old.4)
      | inr new ↦ (
        n,
        omega arith,
        subst (λ (o : Kept). o.home ≢ region) place new.0.0,
        subst (λ (o : Kept). Contains (fields_of o.content) (datum.Object name)) place new.0.1,
        subst (λ (o : Kept). o.home ≡ s) place new.1,
      )
    ]

    back : (s : Space) → IsFieldSource objects region name (n + 1) s → IsFieldSource objects region name n s ⊎ (((kept.home ≢ region) × Contains (fields_of kept.content) (datum.Object name)) × (kept.home ≡ s))
    back s d = elim (same_or_other_place d.0 n) [
      | inl e ↦
          let at : get_or objects d.0 nobody ≡ kept = ap (λ p. get_or objects p nobody) e ∙ sym place in
          inr ((subst (λ (o : Kept). o.home ≢ region) at d.2, subst (λ (o : Kept). Contains (fields_of o.content) (datum.Object name)) at d.3), subst (λ (o : Kept). o.home ≡ s) at d.4)
      | inr o ↦ inl (d.0, omega (arith, o, d.1), d.2, d.3, d.4)
    ]

pub field_all : (objects : List Kept) (region : Space) (name : Name) (n : ℕ) (acc : Option Space) → n ≡ length objects → IsJoinOf (IsFieldSource objects region name n) acc → IsJoinOf (IsFieldSource objects region name (length objects)) acc
field_all objects region name n acc e h = subst (λ m. IsJoinOf (IsFieldSource objects region name m) acc) e h

pub home_valid : (objects : List Kept) (n : ℕ) (kept : Kept) → n < length objects → kept ≡ get_or objects n kept → ((i : ℕ) → i < length objects → IsValid MAX_DEPTH (home_at objects i)) → IsValid MAX_DEPTH kept.home
home_valid objects n kept lt is h = subst (λ (o : Kept). IsValid MAX_DEPTH o.home) (place_is objects n kept kept lt is refl) (h n lt)

-- the stack of another thread
pub other_at : (threads : List Thread) (t k : ℕ) (state : Thread) (name : Name) → 1 ≤ t → k < length threads → k ≢ t - 1 → state ≡ get_or threads k state → Contains state.stack (datum.Object name) → (u : ℕ) × (u ≢ t) × IsHeldBy threads u name
other_at threads t k state name one lt apart is held =
    let same : k + 1 - 1 ≡ k = omega arith in
    (k + 1, (λ e. apart (omega (arith, e))), ((omega arith, omega arith), subst (λ (x : Thread). Contains x.stack (datum.Object name)) (sym (ap (λ p. get_or threads p idle) same ∙ thread_is threads k state lt is)) held))

pub none_other : (threads : List Thread) (t n : ℕ) (name : Name) → 1 ≤ t → length threads ≤ n → ((k : ℕ) → k < n → k ≢ t - 1 → Contains (get_or threads k idle).stack (datum.Object name) → ⊥) → ((u : ℕ) × (u ≢ t) × IsHeldBy threads u name) → ⊥
none_other threads t n name one le none held =
    none (held.0 - 1) (omega (arith, held.2.0.0, held.2.0.1)) (λ e. held.1 (omega (arith, e, held.2.0.0))) held.2.1
