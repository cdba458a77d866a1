-- Whether walks along edges that can be decided lead from one name to another.
use Rattle.std.proofs.Common.{◌≡◌, ◌⊎◌, List, [], ◌∷◌, refl, subst, inl, inr}
use Rattle.object_layout.specs.declared.names.Name.{Name}
use Rattle.yak_model.specs.Spaces.{Walk, here, onward}
use Rattle.yak_model.proofs.Names.{same_or_other}

-- A is so or it isn't
abbrev pub Decided : Type 0 → Type 0
Decided A = A ⊎ (A → ⊥)

pub both_decided : {A B : Type 0} → Decided A → Decided B → Decided (A × B)
both_decided (inl a) (inl b) = inl (a, b)
both_decided (inl a) (inr never) = inr (λ p. never p.1)
both_decided (inr never) b = inr (λ p. never p.0)

pub either_decided : {A B : Type 0} → Decided A → Decided B → Decided (A ⊎ B)
either_decided (inl a) b = inl (inl a)
either_decided (inr never) (inl b) = inl (inr b)
either_decided (inr never) (inr not) = inr (λ e. elim e [ inl a ↦ never a | inr b ↦ not b ])

-- the name stands on the list
abbrev pub Among : Name → List Name → Type 0
Among n [] = ⊥
Among n (k ∷ ks) = (n ≡ k) ⊎ Among n ks

pub walk_on : {edge : Name → Name → Type 0} {from middle to : Name} → Walk edge from middle → Walk edge middle to → Walk edge from to
walk_on w here = w
walk_on w (onward v e) = onward (walk_on w v) e

module _ (edge : Name → Name → Type 0) where
  -- a walk that passes only names of the list
  abbrev Through : List Name → Name → Name → Type 0
  Through [] a b = (a ≡ b) ⊎ edge a b
  Through (k ∷ ks) a b = Through ks a b ⊎ (Through ks a k × Through ks k b)

  through_decided : ((a b : Name) → Decided (edge a b)) → (ks : List Name) (a b : Name) → Decided (Through ks a b)
  through_decided test [] a b = either_decided (same_or_other a b) (test a b)
  through_decided test (k ∷ ks) a b =
      either_decided (through_decided test ks a b) (both_decided (through_decided test ks a k) (through_decided test ks k b))

  walks : (ks : List Name) (a b : Name) → Through ks a b → Walk edge a b
  walks [] a b (inl e) = subst (λ n. Walk edge a n) e here
  walks [] a b (inr e) = onward here e
  walks (k ∷ ks) a b (inl t) = walks ks a b t
  walks (k ∷ ks) a b (inr t) = walk_on (walks ks a k t.0) (walks ks k b t.1)

  stands_still : (ks : List Name) (a : Name) → Through ks a a
  stands_still [] a = inl refl
  stands_still (k ∷ ks) a = inl (stands_still ks a)

  one_step : (ks : List Name) (a b : Name) → edge a b → Through ks a b
  one_step [] a b e = inr e
  one_step (k ∷ ks) a b e = inl (one_step ks a b e)

  -- to the first name of the list, or from it
  to_first : (ks : List Name) (k a : Name) → Through (k ∷ ks) a k → Through ks a k
  to_first ks k a (inl t) = t
  to_first ks k a (inr t) = t.0

  from_first : (ks : List Name) (k b : Name) → Through (k ∷ ks) k b → Through ks k b
  from_first ks k b (inl t) = t
  from_first ks k b (inr t) = t.1

  -- one such walk after another, through a name of the list
  joined : (ks : List Name) (a c b : Name) → Among c ks → Through ks a c → Through ks c b → Through ks a b
  joined [] a c b among t u = absurd among
  joined (k ∷ ks) a c b (inl same) t u =
      inr (to_first ks k a (subst (λ n. Through (k ∷ ks) a n) same t), from_first ks k b (subst (λ n. Through (k ∷ ks) n b) same u))
  joined (k ∷ ks) a c b (inr among) (inl t) (inl u) = inl (joined ks a c b among t u)
  joined (k ∷ ks) a c b (inr among) (inl t) (inr u) = inr (joined ks a c k among t u.0, u.1)
  joined (k ∷ ks) a c b (inr among) (inr t) (inl u) = inr (t.0, joined ks k c b among t.1 u)
  joined (k ∷ ks) a c b (inr among) (inr t) (inr u) = inr (t.0, u.1)

  through : (ks : List Name) → ((a b : Name) → edge a b → Among a ks) → (a b : Name) → Walk edge a b → Through ks a b
  through ks all a b w = by_walk w
    where
      by_walk : {n : Name} → Walk edge a n → Through ks a n
      by_walk here = stands_still ks a
      by_walk (onward v e) = joined ks a _ _ (all _ _ e) (by_walk v) (one_step ks _ _ e)

  -- where every edge begins at a name of a list
  pub walk_decided : ((a b : Name) → Decided (edge a b)) → (ks : List Name) → ((a b : Name) → edge a b → Among a ks) → (a b : Name) → Decided (Walk edge a b)
  walk_decided test ks all a b = elim (through_decided test ks a b) [
    | inl t ↦ inl (walks ks a b t)
    | inr never ↦ inr (λ w. never (through ks all a b w))
  ]
