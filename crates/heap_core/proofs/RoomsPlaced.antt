-- The pages that are claimed while objects are placed in open spaces.
use Rattle.std.proofs.Common.{◌≡◌, ◌≢◌, ◌==◌, ℕ, zero, suc, ◌+◌, ◌-◌, ◌*◌, ◌≤◌, ◌<◌, Bool, true, false, cond, nat_le, Option, Some, None, List, [], ◌∷◌, length, refl, ap, arith}
use Rattle.std.proofs.Math.Logic.{⊎_elim}
use Rattle.std.specs.List.{sum_by}
use Rattle.std.proofs.lemmas.Bool.{cases_eq}
use Rattle.std.proofs.lemmas.Bool.Decides.{nat_tests}
use Rattle.std.proofs.lemmas.List.Sums.{sum_by-cons, sum_by-le}
use Rattle.heap_words.specs.declared.map.Areas.{Areas}
use Rattle.heap_words.specs.Map.{page_words}
use Rattle.heap_words.specs.Contents.{Contents}
use Rattle.epoch_lattice.specs.declared.Space.{Space}
use Rattle.epoch_lattice.specs.declared.Space.TheVariants.{Control, Region}
use Rattle.epoch_lattice.specs.Lattice.{space_index, space_of}
use Rattle.yak_model.specs.Placed.{used_mark}
use Rattle.yak_model.specs.Stands.{current}
use Rattle.escape_closure.specs.Placing.{Filling, filling, left, room_in, rooms_at}
use Rattle.heap_core.proofs.RoomsOpen.{hit-other, hit-own, hits, hits-cons}

-- a sum over a list that has a number once, where its term is another
own-term : (a b v w : ℕ) → a ≡ b → cond (a == b) v w ≡ v
own-term a b v w e = grind (arith, nat_tests)

other-term : (a b v w : ℕ) → a ≢ b → cond (a == b) v w ≡ w
other-term a b v w ne = grind (arith, nat_tests)

abbrev sum_at : (ℕ → ℕ) → List Space → ℕ
sum_at r xs = sum_by (λ (x : Space). r (space_index x)) xs

abbrev put : (ℕ → ℕ) → ℕ → ℕ → ℕ → ℕ
put r i v j = cond (j == i) v (r j)

unchanged : (xs : List Space) (r : ℕ → ℕ) (i v : ℕ) → hits xs i ≡ 0 → sum_at (put r i v) xs ≡ sum_at r xs
unchanged [] r i v none = refl
unchanged (x ∷ xs) r i v none =
    let k : ℕ = space_index x in
    let all = hits-cons x xs i in
    let rest = unchanged xs r i v (omega (arith, none, all)) in
    let ne : k ≢ i = λ e. omega (arith, none, all, hit-own k i e) in
    omega (arith, sum_by-cons (λ (y : Space). put r i v (space_index y)) x xs, sum_by-cons (λ (y : Space). r (space_index y)) x xs, rest, other-term k i v (r k) ne)

changed : (xs : List Space) (r : ℕ → ℕ) (i v : ℕ) → hits xs i ≡ 1 → sum_at (put r i v) xs + r i ≡ sum_at r xs + v
changed [] r i v one = absurd (omega arith)
changed (x ∷ xs) r i v one =
    let k : ℕ = space_index x in
    let all = hits-cons x xs i in
    let new = sum_by-cons (λ (y : Space). put r i v (space_index y)) x xs in
    let old = sum_by-cons (λ (y : Space). r (space_index y)) x xs in
    ⊎_elim
    (λ (e : k ≡ i). omega (arith, new, old, own-term k i v (r k) e, ap r e, unchanged xs r i v (omega (arith, one, all, hit-own k i e))))
    (λ (ne : k ≢ i). omega (arith, new, old, other-term k i v (r k) ne, changed xs r i v (omega (arith, one, all, hit-other k i ne))))
    (cases_eq k i)

-- the words left in current pages are at most a page
some_most : (b : Bool) (w u v : ℕ) → u ≤ w → v ≤ w → cond b u v ≤ w
some_most true w u v lu lv = lu
some_most false w u v lu lv = lv

room_most : (m : Areas) (c : Contents) (t : ℕ) (x : Option Space) → room_in m c t x ≤ page_words m
room_most m c t None = omega arith
room_most m c t (Some Control) = some_most (current c.currents t 0 == 0) (page_words m) 0 (page_words m - used_mark c.table (current c.currents t 0 - 1)) (omega arith) (omega arith)
room_most m c t (Some (Region u d)) = some_most (current c.currents u d == 0) (page_words m) 0 (page_words m - used_mark c.table (current c.currents u d - 1)) (omega arith) (omega arith)

pub rooms-most : (m : Areas) (c : Contents) (t i : ℕ) → rooms_at m c t i ≤ page_words m
rooms-most m c t i = room_most m c t (space_of i)

left_most : (m : Areas) (size room : ℕ) → room ≤ page_words m → left m size room ≤ page_words m
left_most m size room le = some_most (nat_le size room) (page_words m) (room - size) (page_words m - size) (omega (arith, le)) (omega arith)

filling_most : (m : Areas) (rooms index size : ℕ → ℕ) (k : ℕ) → ((i : ℕ) → rooms i ≤ page_words m) → (i : ℕ) → (filling m rooms index size k).rooms i ≤ page_words m
unfolding filling
filling_most m rooms index size zero most i = most i
filling_most m rooms index size (suc k) most i =
    let f : Filling = filling m rooms index size k in
    let before : (j : ℕ) → f.rooms j ≤ page_words m = filling_most m rooms index size k most in
    some_most (i == index k) (page_words m) (left m (size k) (f.rooms (index k))) (f.rooms i) (left_most m (size k) (f.rooms (index k)) (before (index k))) (before i)

-- one step: a claim follows a page on which little room was left
le_of : (a b : ℕ) → nat_le a b ≡ true → a ≤ b
le_of a b e = grind (arith, nat_tests)

lt_of : (a b : ℕ) → nat_le a b ≡ false → b < a
lt_of a b e = grind (arith, nat_tests)

step_by : (m : Areas) (b : Bool) (size room claimed words sum sum' : ℕ) → nat_le size room ≡ b → room ≤ page_words m → sum' + room ≡ sum + cond b (room - size) (page_words m - size) → page_words m * claimed ≤ 2 * words + sum → page_words m * (claimed + cond b 0 1) ≤ 2 * (words + size) + sum'
step_by m true size room claimed words sum sum' e most moved old = let le = le_of size room e in omega (arith, le, moved, old)
step_by m false size room claimed words sum sum' e most moved old = let lt = lt_of size room e in omega (arith, lt, most, moved, old)

-- the words of the first objects
abbrev pub words_before : (ℕ → ℕ) → ℕ → ℕ
words_before size zero = 0
words_before size (suc k) = words_before size k + size k

filling_claims : (m : Areas) (rooms index size : ℕ → ℕ) (xs : List Space) (k : ℕ) → ((i : ℕ) → rooms i ≤ page_words m) → ((j : ℕ) → j < k → hits xs (index j) ≡ 1)
    → page_words m * (filling m rooms index size k).claimed ≤ 2 * words_before size k + sum_at (filling m rooms index size k).rooms xs
unfolding filling
filling_claims m rooms index size xs zero most one = omega arith
filling_claims m rooms index size xs (suc k) most one =
    let f : Filling = filling m rooms index size k in
    let room : ℕ = f.rooms (index k) in
    let before : page_words m * f.claimed ≤ 2 * words_before size k + sum_at f.rooms xs = filling_claims m rooms index size xs k most (λ j lt. one j (omega (arith, lt))) in
    let moved : sum_at (put f.rooms (index k) (left m (size k) room)) xs + room ≡ sum_at f.rooms xs + left m (size k) room = changed xs f.rooms (index k) (left m (size k) room) (one k (omega arith)) in
    step_by m (nat_le (size k) room) (size k) room f.claimed (words_before size k) (sum_at f.rooms xs) (sum_at (put f.rooms (index k) (left m (size k) room)) xs) refl (filling_most m rooms index size k most (index k)) moved before

-- the pages that are claimed for objects of some words, placed in spaces of a list
pub claims-most : (m : Areas) (rooms index size : ℕ → ℕ) (xs : List Space) (k : ℕ) → ((i : ℕ) → rooms i ≤ page_words m) → ((j : ℕ) → j < k → hits xs (index j) ≡ 1)
    → page_words m * (filling m rooms index size k).claimed ≤ 2 * words_before size k + page_words m * length xs
claims-most m rooms index size xs k most one =
    let claimed = filling_claims m rooms index size xs k most one in
    let f : Filling = filling m rooms index size k in
    let rest : sum_at f.rooms xs ≤ length xs * page_words m = sum_by-le (λ (x : Space). f.rooms (space_index x)) (page_words m) xs (λ j d lt. filling_most m rooms index size k most (space_index _)) in
    omega (arith, claimed, rest)
