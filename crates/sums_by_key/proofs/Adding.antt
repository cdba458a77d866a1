-- The sums of lines, and of one line more.
use Rattle.std.proofs.Common.{◌≡◌, ℕ, ◌+◌, ◌≤◌, ◌||◌, Bool, true, false, cond, List, [], ◌∷◌, ◌++◌, Some, None, refl, sym, ap, ◌∙◌, arith, add-zero, zero-add}
use Rattle.std.specs.FinMap as finite
use Rattle.std.specs.FinMap.{IsAntisymmetric, nat_cmp-IsAntisymmetric, slice_cmp-IsAntisymmetric}
use Rattle.std.specs.List.{list_any}
use Rattle.std.specs.Ordering.{eq_by_cmp}
use Rattle.std.specs.Cmp.{Equal-is}
use Rattle.std.proofs.lemmas.Cmp.{nat_list_cmp_total}
use Rattle.std.proofs.lemmas.List.Folds.{list_any-append}
use Rattle.std.proofs.lemmas.List.Sums.{sum_by-append, sum_by-cons}
use Rattle.yak_model.specs.Texts.{WordCounts, word_cmp}
use Rattle.heap_tables.specs.Counted.{count_of, or_zero, raised}
use Rattle.sums_by_key.specs.declared.lines.Line.{Line}
use Rattle.sums_by_key.specs.Sums.{AreSums, is_of, share_of, sum_of, total_of}

-- Two keys that the test of equality takes for one are one.
pub same_key : (key other : List ℕ) → eq_by_cmp word_cmp key other ≡ true → key ≡ other
same_key key other tie =
    let same : IsAntisymmetric word_cmp = slice_cmp-IsAntisymmetric nat_cmp-IsAntisymmetric in
    same key other ((Equal-is (word_cmp key other)).0 tie)

-- Lines of other keys add nothing.
none_of : (lines : List Line) (key : List ℕ) → list_any (is_of key) lines ≡ false → sum_of lines key ≡ 0
none_of [] key none = refl
none_of (line ∷ lines) key none =
    sum_by-cons (share_of key) line lines ∙ elim (is_of key line) as (λ b. (b || list_any (is_of key) lines) ≡ false → cond {A = ℕ} b line.number 0 + sum_of lines key ≡ 0) [
      | true ↦ λ is. cc
      | false ↦ λ rest. let z = none_of lines key rest in omega (arith, z)
    ] none

pub count_is : (lines : List Line) (sums : WordCounts) (key : List ℕ) → AreSums lines sums → count_of sums key ≡ sum_of lines key
count_is lines sums key are = ap or_zero (are key) ∙ elim (list_any (is_of key) lines) as (λ b. list_any (is_of key) lines ≡ b → or_zero (cond b (Some (sum_of lines key)) None) ≡ sum_of lines key) [
  | true ↦ λ _. refl
  | false ↦ λ none. sym (none_of lines key none)
] refl

share_small : (line : Line) (b : Bool) → cond {A = ℕ} b line.number 0 ≤ line.number
share_small line true = omega arith
share_small line false = omega arith

pub sum_small : (lines : List Line) (key : List ℕ) → sum_of lines key ≤ total_of lines
sum_small [] key = omega arith
sum_small (line ∷ lines) key =
    let one = share_small line (is_of key line) in let rest = sum_small lines key in
    let all = sum_by-cons (λ (l : Line). l.number) line lines in
    let here = sum_by-cons (share_of key) line lines in
    omega (arith, one, rest, all, here)

pub total_push : (lines : List Line) (line : Line) → total_of (lines ++ line ∷ []) ≡ total_of lines + line.number
total_push lines line = let e = sum_by-append (λ (l : Line). l.number) lines (line ∷ []) in omega (arith, e)

or_true : (b : Bool) → true ≡ (b || true)
or_true true = refl
or_true false = refl

or_false : (b : Bool) → b ≡ (b || false)
or_false true = refl
or_false false = refl

pub sums_push : (lines : List Line) (line : Line) (sums : WordCounts) → AreSums lines sums → AreSums (lines ++ line ∷ []) (raised sums line.key.now line.number)
sums_push lines line sums are = λ key. finite.get-insert nat_list_cmp_total sums line.key.now (count_of sums line.key.now + line.number) key ∙ pushed key ∙ sym (told key)
  where
    told : (key : List ℕ) → cond (list_any (is_of key) (lines ++ line ∷ [])) (Some (sum_of (lines ++ line ∷ []) key)) None ≡ cond (list_any (is_of key) lines || (is_of key line || false)) (Some (sum_of lines key + share_of key line)) None
    told key = λ i. cond (list_any-append (is_of key) lines (line ∷ []) i) (Some ((sum_by-append (share_of key) lines (line ∷ []) ∙ ap (λ n. sum_of lines key + n) (zero-add (share_of key line))) i)) None

    pushed : (key : List ℕ) → cond (eq_by_cmp word_cmp key line.key.now) (Some (count_of sums line.key.now + line.number)) (finite.get sums key) ≡ cond (list_any (is_of key) lines || (is_of key line || false)) (Some (sum_of lines key + share_of key line)) None
    pushed key = elim (eq_by_cmp word_cmp key line.key.now) as (λ b. eq_by_cmp word_cmp key line.key.now ≡ b → cond b (Some (count_of sums line.key.now + line.number)) (finite.get sums key) ≡ cond (list_any (is_of key) lines || (b || false)) (Some (sum_of lines key + cond b line.number 0)) None) [
      | true ↦ λ tie.
          let e : count_of sums line.key.now ≡ sum_of lines key = ap (count_of sums) (sym (same_key key line.key.now tie)) ∙ count_is lines sums key are in
          ap (λ n. Some (n + line.number)) e ∙ ap (λ b. cond b (Some (sum_of lines key + line.number)) None) (or_true (list_any (is_of key) lines))
      | false ↦ λ _.
          are key ∙ (λ i. cond (or_false (list_any (is_of key) lines) i) (Some (sym (add-zero (sum_of lines key)) i)) None)
    ] refl
