-- The control objects that a collection drops: those without a mark.
use Rattle.std.proofs.Common.{◌≡◌, ◌≢◌, ◌⊎◌, ℕ, ◌+◌, ◌<◌, Bool, true, false, Option, Some, None, List, [], length, get_or, refl, sym, ap, subst, ◌∙◌, arith, inl, inr, is_some}
use Rattle.std.proofs.lemmas.Bool.{cases_Bool, eqb-true, eq-eqb}
use Rattle.std.proofs.lemmas.List.{get_or_default}
use Rattle.std.specs.List.{Contains}
use Rattle.std.specs.Prelude.{◌==◌}
use Rattle.object_layout.specs.declared.names.Name.{Name}
use Rattle.heap_words.specs.declared.map.Areas.{Areas}
use Rattle.heap_words.specs.Contents.{Contents}
use Rattle.epoch_lattice.specs.declared.Space.{Space}
use Rattle.epoch_lattice.specs.declared.Space.TheVariants.{Control, Region}
use Rattle.epoch_lattice.specs.Lattice.{space_index}
use Rattle.yak_model.specs.declared.datum.Datum.{Datum}
use Rattle.yak_model.specs.declared.datum.Datum.TheVariants.{Null, Int, Object}
use Rattle.yak_model.specs.Spaces.{IsLive, SpaceState, home_of, here, onward}
use Rattle.yak_model.specs.State.{IsClosed, IsDatum, Thing, object_of, view}
use Rattle.yak_model.specs.Plans.{without}
use Rattle.yak_model.specs.Stands.{Stands}
use Rattle.heap_walks.proofs.Seen.{seen, points_of, present_of}
use Rattle.relocation.specs.Slide.{Drops}
use Rattle.relocation.proofs.Lawful.{kept}
use Rattle.relocation.proofs.SlidLawful.{kept-false}
use Rattle.mark_compact.specs.Marked.{MarksLive}
use Rattle.mark_compact.specs.Collecting.{KeepsLive}
use Rattle.mark_compact.specs.declared.sliding.TheConstants.{CONTROL_WORD}
use Rattle.mark_compact.proofs.Lives.{live_of_alive}

-- by the space of an object and its work word
abbrev pub is_dropped : Option Space → ℕ → Bool
is_dropped None w = false
is_dropped (Some Control) w = w == 0
is_dropped (Some (Region t d)) w = false

dropped-true : (x : Option Space) (w : ℕ) → is_dropped x w ≡ true → (x ≡ Some Control) × (w ≡ 0)
dropped-true None w e = absurd (let q : false ≡ true = e in cc)
dropped-true (Some Control) w e = (refl, eqb-true w 0 e)
dropped-true (Some (Region t d)) w e = absurd (let q : false ≡ true = e in cc)

dropped-false : (w : ℕ) → is_dropped (Some Control) w ≡ false → w ≢ 0
dropped-false w e z = let yes : (w == 0) ≡ true = eq-eqb w 0 z in let no : (w == 0) ≡ false = e in absurd (let q : true ≡ false = sym yes ∙ no in cc)

pub control_case : (x : Space) → (x ≡ Control) ⊎ (x ≢ Control)
control_case Control = inl refl
control_case (Region t d) = inr (λ e. cc)

pub control_word : (x : Space) → space_index x + 1 ≡ CONTROL_WORD → x ≡ Control
control_word Control e = refl
control_word (Region t d) e = absurd (omega (arith, e))

both_ways : (b : Bool) → b ≡ true → b ≡ false → ⊥
both_ways b t f = let q : true ≡ false = sym t ∙ f in absurd (let r : true ≡ false = q in cc)

some_space : (x y : Space) → Some x ≡ Some y → x ≡ y
some_space x y e = cc

pub fits_kept : (s : SpaceState) (dropped : Name → Bool) (v : Datum) → IsDatum (object_of s) v → ((x : Name) → v ≡ Object x → dropped x ≡ false) → IsDatum (without (view s) dropped).objects v
fits_kept s dropped Null h stays = tt
fits_kept s dropped (Int i) h stays = h
fits_kept s dropped (Object x) h stays = rw (stays x refl) h

module _ (m : Areas) (c d : Contents) (s : SpaceState) (h : Stands m c s) (count : ℕ) (k : MarksLive m s h.places c d count) where
  abbrev pub work : Name → ℕ
  work n = get_or d.heap (h.places.at n + 2) 0

  abbrev pub dropped : Name → Bool
  dropped n = is_dropped (home_of s n) (work n)

  cases-dropped : (n : Name) → ((dropped n ≡ true) × (home_of s n ≡ Some Control) × (work n ≡ 0)) ⊎ (dropped n ≡ false)
  cases-dropped n = elim (cases_Bool (dropped n)) [
    | inl t ↦ let q = dropped-true (home_of s n) (work n) t in inl (t, q.0, q.1)
    | inr f ↦ inr f
  ]

  pub keeps : KeepsLive s dropped
  keeps = record {
    live = λ n lv. elim (cases-dropped n) [
      | inl t ↦ absurd (let one = k.live n (t.1, lv) in omega (arith, one, t.2))
      | inr f ↦ f
    ];
    gone = λ n home dead. let zero_work : work n ≡ 0 = k.dead n (ap is_some home) (λ lc. dead lc.1) in rw (home, zero_work) refl;
    outside = λ n ne. elim (cases-dropped n) [
      | inl t ↦ absurd (ne t.1)
      | inr f ↦ f
    ];
  }

  pub drops : Drops CONTROL_WORD (view s) work dropped
  drops = record {
    kept = λ n o e stays index.
        let home : home_of s n ≡ Some Control = (seen s n o e).home_is ∙ ap Some (control_word o.home index) in
        let f : is_dropped (Some Control) (work n) ≡ false = ap (λ x. is_dropped x (work n)) (sym home) ∙ stays in
        dropped-false (work n) f;
    marked = λ n o e ne. elim (cases-dropped n) [
      | inl t ↦ absurd (ne t.2)
      | inr f ↦ f
    ];
    elsewhere = λ n o e far. elim (cases-dropped n) [
      | inl t ↦ absurd (far (ap (λ x. space_index x + 1) (some_space o.home Control (sym (seen s n o e).home_is ∙ t.1))))
      | inr f ↦ f
    ];
  }

  pub unmarked : (n : Name) (o : Thing) → object_of s n ≡ Some o → (space_index o.home + 1 ≡ CONTROL_WORD → ⊥) → work n ≡ 0
  unmarked n o e far = k.dead n (present_of s n o e) (λ lc. far (ap (λ x. space_index x + 1) (some_space o.home Control (sym (seen s n o e).home_is ∙ lc.0))))

  -- what a kept object refers to is kept
  no_drop : (n x : Name) (o : Thing) → object_of s n ≡ Some o → dropped n ≡ false → Contains o.fields (Object x) → dropped x ≡ true → ⊥
  no_drop n x o e stays refers gone =
      let home = (seen s n o e).home_is in
      let final : IsLive s n → ⊥ = λ lv. both_ways (dropped x) gone (keeps.live x (lv.0, lv.1, onward lv.2 (points_of s h.whole n x (o, e, refers)))) in
      elim (control_case o.home) as (λ _. ⊥) [
        | inl control ↦
            let f : is_dropped (Some Control) (work n) ≡ false = ap (λ y. is_dropped y (work n)) (sym (home ∙ ap Some control)) ∙ stays in
            dropped-false (work n) f (k.dead n (present_of s n o e) (λ lc. final lc.1))
        | inr region ↦ final (n, inr (o.home, home, region), here)
      ]

  pub closed : IsClosed (without (view s) dropped)
  closed = record {
    stacks = λ i st li j v lj.
        let stacks = (view s).stacks in
        fits_kept s dropped (get_or (get_or stacks i st) j v) (h.stands.closed.stacks i st li j v lj) (λ x e.
        let same : get_or stacks i st ≡ get_or stacks i [] = get_or_default stacks i st [] li in
        let lj' : j < length (get_or stacks i []) = subst (λ (l : List Datum). j < length l) same lj in
        let here_is : get_or (get_or stacks i []) j (Object x) ≡ Object x = get_or_default (get_or stacks i []) j (Object x) v lj' ∙ ap (λ (l : List Datum). get_or l j v) (sym same) ∙ e in
        keeps.live x (live_of_alive s h.whole x (x, inl (i, (li, (j, lj', here_is))), here)));
    fields = λ n o e.
        let old : object_of s n ≡ Some o = kept (view s) dropped n o e in
        let stays : dropped n ≡ false = kept-false (view s) dropped n o (dropped n) refl e in
        let f = h.stands.closed.fields n o old in (
          λ j v lj. fits_kept s dropped (get_or o.fields j v) (f.0 j v lj) (λ x q. elim (cases_Bool (dropped x)) [
            | inl gone ↦ absurd (no_drop n x o old stays (j, lj, get_or_default o.fields j (Object x) v lj ∙ q) gone)
            | inr not_gone ↦ not_gone
          ]),
          f.1,
        );
  }
