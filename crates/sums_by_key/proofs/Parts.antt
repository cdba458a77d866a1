-- Lines that are added one after the other.
use Rattle.std.proofs.Common.{zero, suc, ◌≡◌, ℕ, ◌+◌, ◌-◌, ◌≤◌, ◌<◌, slice_range, All, List, [], ◌∷◌, ◌++◌, length, get_or, take, drop, refl, ◌∙◌, ap, sym, subst, arith, length-append}
use Rattle.std.proofs.lemmas.List.{append_assoc}
use Rattle.std.proofs.lemmas.List.Elements.{All-nil, All-cons, All-head, All-tail}
use Rattle.std.proofs.lemmas.List.Sums.{sum_by-append}
use Rattle.object_layout.specs.declared.TheConstants.{WORD_LIMIT}
use Rattle.sums_by_key.specs.declared.lines.Line.{Line}
use Rattle.std.proofs.Math.Seq.{take-add}
use Rattle.yak_model.specs.declared.datum.Datum.{Datum}
use Rattle.yak_model.specs.declared.datum.Datum.TheVariants as datum
use Rattle.yak_model.specs.Private.{KnownObjects}
use Rattle.yak_model.specs.Standing.{Standing}
use Rattle.heap_tables.specs.Runs.{KeepsKnown}
use Rattle.sums_by_key.specs.declared.TheConstants.{TABLE_SLOT}
use Rattle.sums_by_key.specs.Held.{AreSummable, HoldsSums}

all_left : {X : Type 0} (P : X → Type 0) (xs ys : List X) → All P (xs ++ ys) → All P xs
all_left P [] ys all = All-nil P
all_left P (x ∷ xs) ys all = All-cons P x xs (All-head P x (xs ++ ys) all) (all_left P xs ys (All-tail P x (xs ++ ys) all))

all_right : {X : Type 0} (P : X → Type 0) (xs ys : List X) → All P (xs ++ ys) → All P ys
all_right P [] ys all = all
all_right P (x ∷ xs) ys all = all_right P xs ys (All-tail P x (xs ++ ys) all)

-- The first of lines that can be summed up can be.
pub front : (lines more : List Line) → AreSummable (lines ++ more) → AreSummable lines
front lines more all = record {
  few = let size = length-append lines more in omega (arith, size, all.few);
  short = all_left (λ line. length line.key.now ≤ WORD_LIMIT) lines more all.short;
  small = let sum = sum_by-append (λ (line : Line). line.number) lines more in omega (arith, sum, all.small);
}

pub front_of : (all_of lines more : List Line) → all_of ≡ lines ++ more → AreSummable all_of → AreSummable lines
front_of all_of lines more parts all = front lines more (subst AreSummable parts all)

-- the line at a place, after those before it
pub take_next : (lines : List Line) (i : ℕ) (d : Line) → i < length lines → take (i + 1) lines ≡ take i lines ++ (get_or lines i d ∷ [])
take_next lines i d h = let e : i + 1 ≡ suc i = omega arith in ap (λ n. take n lines) e ∙ one lines i h
  where
    one : (xs : List Line) (k : ℕ) → k < length xs → take (suc k) xs ≡ take k xs ++ (get_or xs k d ∷ [])
    one [] k h = absurd (omega (arith, h))
    one (x ∷ xs) zero h = refl
    one (x ∷ xs) (suc k) h = ap (λ ys. x ∷ ys) (one xs k (omega (arith, h)))

pub take_rest : (lines : List Line) (i : ℕ) → lines ≡ take i lines ++ drop i lines
take_rest [] zero = refl
take_rest [] (suc i) = refl
take_rest (x ∷ xs) zero = refl
take_rest (x ∷ xs) (suc i) = ap (λ ys. x ∷ ys) (take_rest xs i)

pub next_front : (done lines : List Line) (i : ℕ) (d : Line) → i < length lines → done ++ take (i + 1) lines ≡ (done ++ take i lines) ++ (get_or lines i d ∷ [])
next_front done lines i d h = ap (λ ys. done ++ ys) (take_next lines i d h) ∙ sym (append_assoc done (take i lines) (get_or lines i d ∷ []))

-- The lines up to and with the next can be summed up where all can.
pub next_summable : (done lines : List Line) (i : ℕ) (d : Line) → i < length lines → AreSummable (done ++ lines) → AreSummable ((done ++ take i lines) ++ (get_or lines i d ∷ []))
next_summable done lines i d h all =
    subst AreSummable (next_front done lines i d h)
    (front_of (done ++ lines) (done ++ take (i + 1) lines) (drop (i + 1) lines) (ap (λ ys. done ++ ys) (take_rest lines (i + 1)) ∙ sym (append_assoc done (take (i + 1) lines) (drop (i + 1) lines))) all)

pub next_short : (done lines : List Line) (i : ℕ) (d : Line) → i < length lines → AreSummable (done ++ lines) → length (get_or lines i d).key.now ≤ WORD_LIMIT
next_short done lines i d h all =
    All-head (λ line. length line.key.now ≤ WORD_LIMIT) (get_or lines i d) []
    (all_right (λ line. length line.key.now ≤ WORD_LIMIT) (done ++ take i lines) (get_or lines i d ∷ []) ((next_summable done lines i d h all).short))

pub whole : (lines : List Line) (i : ℕ) → length lines ≤ i → take i lines ≡ lines
whole [] zero h = refl
whole [] (suc i) h = refl
whole (x ∷ xs) zero h = absurd (omega (arith, h))
whole (x ∷ xs) (suc i) h = ap (λ ys. x ∷ ys) (whole xs i (omega (arith, h)))

-- ---- parts of lines, one after the other

pub cut_next : (lines : List Line) (a b : ℕ) → a ≤ b → take a lines ++ slice_range lines a b ≡ take b lines
cut_next lines a b h =
    let e : a + (b - a) ≡ b = omega (arith, h) in
    sym (take-add a (b - a) lines) ∙ ap (λ n. take n lines) e

pub cut_summable : (lines : List Line) (a b : ℕ) → a ≤ b → AreSummable lines → AreSummable (take a lines ++ slice_range lines a b)
cut_summable lines a b h all =
    subst AreSummable (sym (cut_next lines a b h)) (front_of lines (take b lines) (drop b lines) (take_rest lines b) all)

-- ---- calls that keep the stack

pub held_on : (s now : Standing) (knows after : KnownObjects → Type 0) (lines : List Line) → now.own.stack ≡ s.own.stack → KeepsKnown knows after → HoldsSums s knows lines → HoldsSums now after lines
held_on s now knows after lines e keeps h =
    let r = h.2 in (
      h.0,
      keeps h.0 h.1,
      record {
        name = r.name;
        slot = ap (λ (st : List Datum). get_or st TABLE_SLOT datum.Null) e ∙ r.slot;
        sums = r.sums;
        are_sums = r.are_sums;
        table = r.table;
      },
    )
