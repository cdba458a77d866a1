-- Chains without the slots that lie in pages.
use Rattle.std.proofs.Common.{◌≡◌, ℕ, ◌+◌, ◌*◌, ◌/◌, ◌≤◌, ◌<◌, ◌&&◌, Bool, true, false, not, cond, eqb, ltb, List, [], ◌∷◌, refl, sym, ap, ◌∙◌, arith}
use Rattle.std.specs.List.{All, filter}
use Rattle.std.proofs.Math.Logic.{⊎_elim}
use Rattle.std.proofs.Math.Nat.{div-lt_iff_lt-mul}
use Rattle.std.proofs.lemmas.Bool.Decides.{nat_tests}
use Rattle.std.proofs.lemmas.Bool.{and_left, and_right, cases_Bool, cases_lt, cond-false, cond-true, eq-eqb, le-ltb, lt-ltb, ne_eqb}
use Rattle.std.proofs.lemmas.List.Elements.{All-head, All-tail}

-- a filter after another one
pub filter-filter : (p q : ℕ → Bool) (l : List ℕ) → filter p (filter q l) ≡ filter (λ a. q a && p a) l
filter-filter p q [] = refl
filter-filter p q (a ∷ l) =
    ⊎_elim (λ (t : q a ≡ true).
    ap (filter p) (cond-true (q a) (a ∷ filter q l) (filter q l) t) ∙ ap (λ (k : List ℕ). cond (p a) (a ∷ k) k) (filter-filter p q l) ∙ ap (λ b. cond (b && p a) (a ∷ filter (λ a. q a && p a) l) (filter (λ a. q a && p a) l)) (sym t))
    (λ (f : q a ≡ false).
    ap (filter p) (cond-false (q a) (a ∷ filter q l) (filter q l) f) ∙ filter-filter p q l ∙ sym (cond-false (q a && p a) (a ∷ filter (λ a. q a && p a) l) (filter (λ a. q a && p a) l) (and_left (q a) (p a) f)))
    (cases_Bool (q a))

-- two tests that agree on the elements keep the same
pub filter-alike : (p q : ℕ → Bool) (P : ℕ → Type 0) → ((a : ℕ) → P a → p a ≡ q a) → (l : List ℕ) → All P l → filter p l ≡ filter q l
filter-alike p q P same [] h = refl
filter-alike p q P same (a ∷ l) h =
    ap (λ b. cond b (a ∷ filter p l) (filter p l)) (same a (All-head P a l h)) ∙ ap (λ (k : List ℕ). cond (q a) (a ∷ k) k) (filter-alike p q P same l (All-tail P a l h))

pub filter-all : (p : ℕ → Bool) (l : List ℕ) → ((a : ℕ) → p a ≡ true) → filter p l ≡ l
filter-all p [] h = refl
filter-all p (a ∷ l) h = cond-true (p a) (a ∷ filter p l) (filter p l) (h a) ∙ ap (λ (k : List ℕ). a ∷ k) (filter-all p l h)

-- the slots before a page's start and from a place in it on
abbrev pub beyond : ℕ → ℕ → ℕ → Bool
beyond start k a = not (not (ltb a start) && ltb a (start + k))

pub beyond-none : (start a : ℕ) → beyond start 0 a ≡ true
beyond-none start a =
    ⊎_elim (λ (lt : a < start). ap (λ b. not (not b && ltb a (start + 0))) (lt-ltb a start lt))
    (λ (le : start ≤ a). ap (λ b. not (not (ltb a start) && b)) (le-ltb a (start + 0) (omega (arith, le))) ∙ ap not (and_right (not (ltb a start)) false refl))
    (cases_lt a start)

pub beyond-more : (start k a : ℕ) → (beyond start k a && not (eqb a (start + k))) ≡ beyond start (k + 1) a
beyond-more start k a = grind (arith, nat_tests)

pub beyond-page : (w page a : ℕ) → 0 < w → beyond (w * page) w a ≡ not (eqb (a / w) page)
beyond-page w page a some =
    ⊎_elim (λ (lt : a < w * page).
    let below : a / w < page = (div-lt_iff_lt-mul some).1 (omega (arith, lt)) in
    ap (λ b. not (not b && ltb a (w * page + w))) (lt-ltb a (w * page) lt) ∙ sym (ap not (ne_eqb (a / w) page (omega (arith, below)))))
    (λ (le : w * page ≤ a).
    ⊎_elim (λ (lt : a < w * page + w).
    let below : a / w < page + 1 = (div-lt_iff_lt-mul some).1 (omega (arith, lt)) in
    let from : page ≤ a / w = ⊎_elim (λ (z : a / w < page). absurd (omega (arith, le, (div-lt_iff_lt-mul some).0 z))) (λ z. z) (cases_lt (a / w) page) in
    ap (λ b. not (not b && ltb a (w * page + w))) (le-ltb a (w * page) le) ∙ ap not (lt-ltb a (w * page + w) lt) ∙ sym (ap not (eq-eqb (a / w) page (omega (arith, below, from)))))
    (λ (ge : w * page + w ≤ a).
    let from : page + 1 ≤ a / w = ⊎_elim (λ (z : a / w < page + 1). absurd (omega (arith, ge, (div-lt_iff_lt-mul some).0 z))) (λ z. z) (cases_lt (a / w) (page + 1)) in
    ap (λ b. not (not b && ltb a (w * page + w))) (le-ltb a (w * page) le) ∙ ap not (le-ltb a (w * page + w) ge) ∙ sym (ap not (ne_eqb (a / w) page (omega (arith, from)))))
    (cases_lt a (w * page + w)))
    (cases_lt a (w * page))

-- the slots outside the first pages of a space
abbrev pub past : (ℕ → Bool) → ℕ → ℕ → ℕ → Bool
past is w p a = not (ltb (a / w) p && is a)

past-cases : (b : Bool) (q p : ℕ) → (not (ltb q p && b) && not (eqb q p && b)) ≡ not (ltb q (p + 1) && b)
past-cases true q p = grind (arith, nat_tests)
past-cases false q p = ap (λ x. not x && not (eqb q p && false)) (and_right (ltb q p) false refl) ∙ ap not (and_right (eqb q p) false refl) ∙ sym (ap not (and_right (ltb q (p + 1)) false refl))

pub past-none : (is : ℕ → Bool) (w a : ℕ) → past is w 0 a ≡ true
past-none is w a = ap (λ b. not (b && is a)) (le-ltb (a / w) 0 (omega arith))

pub past-more : (is : ℕ → Bool) (w p a : ℕ) → (past is w p a && not (eqb (a / w) p && is a)) ≡ past is w (p + 1) a
past-more is w p a = past-cases (is a) (a / w) p

pub past-all : (is : ℕ → Bool) (w p a : ℕ) → a / w < p → past is w p a ≡ not (is a)
past-all is w p a lt = ap (λ b. not (b && is a)) (lt-ltb (a / w) p lt)

pub past-known : (is : ℕ → Bool) (w p a : ℕ) → (p ≤ a / w → is a ≡ false) → past is w p a ≡ not (is a)
past-known is w p a none = ⊎_elim (λ (lt : a / w < p). past-all is w p a lt)
    (λ (le : p ≤ a / w). ap not (and_right (ltb (a / w) p) (is a) (none le)) ∙ sym (ap not (none le)))
    (cases_lt (a / w) p)
