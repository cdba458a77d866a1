-- Sums of the words that counting takes.
use Rattle.std.proofs.Common.{◌≡◌, ℕ, ◌+◌, ◌*◌, ◌≤◌, List, [], ◌∷◌, ◌++◌, All, length, refl, ◌∙◌, ap, sym, subst, arith, length-append, Result, Ok, Err}
use Rattle.std.specs.Result.{OnErr}
use Rattle.std.specs.List.{sum_by}
use Rattle.std.proofs.lemmas.List.{append_assoc}
use Rattle.std.proofs.lemmas.List.Elements.{All-head, All-tail, All-nil, All-cons}
use Rattle.std.proofs.lemmas.List.Sums.{sum_by-append, sum_by-cons, sum_by_push}
use Rattle.yak_model.specs.Graph.{Thread}
use Rattle.yak_model.specs.Room.{entry_words, key_words}
use Rattle.group_jobs.specs.Tallies.{KeepsPlace, part_room, words_room}

pub all_right : {X : Type 0} (P : X → Type 0) (xs ys : List X) → All P (xs ++ ys) → All P ys
all_right P [] ys all = all
all_right P (x ∷ xs) ys all = all_right P xs ys (All-tail P x (xs ++ ys) all)

pub all_left : {X : Type 0} (P : X → Type 0) (xs ys : List X) → All P (xs ++ ys) → All P xs
all_left P [] ys all = All-nil P
all_left P (x ∷ xs) ys all = All-cons P x xs (All-head P x (xs ++ ys) all) (all_left P xs ys (All-tail P x (xs ++ ys) all))

-- the word that comes next
pub next_all : {X : Type 0} (P : X → Type 0) (all_of passed rest : List X) (x : X) → all_of ≡ passed ++ x ∷ rest → All P all_of → P x
next_all P all_of passed rest x parts all = All-head P x rest (all_right P passed (x ∷ rest) (subst (All P) parts all))

pub next_size : {X : Type 0} (all_of passed rest : List X) (x : X) → all_of ≡ passed ++ x ∷ rest → length all_of ≡ length passed + (length rest + 1)
next_size all_of passed rest x parts = omega (arith, ap length parts, length-append passed (x ∷ rest))

pub next_parts : {X : Type 0} (all_of passed rest : List X) (x : X) → all_of ≡ passed ++ x ∷ rest → all_of ≡ (passed ++ x ∷ []) ++ rest
next_parts all_of passed rest x parts = parts ∙ sym (append_assoc passed (x ∷ []) rest)

pub push_size : {X : Type 0} (passed : List X) (x : X) → length (passed ++ x ∷ []) ≡ length passed + 1
push_size passed x = length-append passed (x ∷ [])

pub push_sum : {X : Type 0} (f : X → ℕ) (passed : List X) (x : X) → sum_by f (passed ++ x ∷ []) ≡ sum_by f passed + f x
push_sum f passed x = sum_by_push f passed x

pub next_sum : {X : Type 0} (f : X → ℕ) (all_of passed rest : List X) (x : X) → all_of ≡ passed ++ x ∷ rest → sum_by f passed + f x ≤ sum_by f all_of
next_sum f all_of passed rest x parts = omega (arith, ap (sum_by f) parts, sum_by-append f passed (x ∷ rest), sum_by-cons f x rest)

pub words_parts : (words : List (List ℕ)) → words_room words ≡ part_room words + entry_words * length words
words_parts [] = refl
words_parts (word ∷ words) = omega (arith, words_parts words, sum_by-cons (λ w. key_words w + 2 * entry_words) word words, sum_by-cons (λ w. key_words w + entry_words) word words)

-- what holds anyway, for one answer
pub err_of : {A B : Type 0} (r : Result A B) (P : Type 0) → P → OnErr r P
err_of (Ok x) P h = tt
err_of (Err e) P h = h

pub place_then : (a b c : Thread) (m n most : ℕ) → m + n ≤ most → KeepsPlace a b m → KeepsPlace b c n → KeepsPlace a c most
place_then a b c m n most le r q = record {
  stack = q.stack ∙ r.stack;
  depth = q.depth ∙ r.depth;
  made = omega (arith, r.made, q.made, le);
}
