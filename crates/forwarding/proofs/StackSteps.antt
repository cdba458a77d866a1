-- The slots of stacks, corrected one after another.
use Rattle.std.proofs.Common.{◌≡◌, ℕ, ◌+◌, ◌-◌, ◌≤◌, ◌<◌, List, [], take, length, get_or, set, map, sum_by, refl, sym, ap, ◌∙◌, arith, length-set, get_or-set_same, get_or-set_other}
use Rattle.std.proofs.lemmas.Bool.{cases_eq}
use Rattle.std.proofs.lemmas.List.{get_or-map, length-map, ext_get_or, set-set, take_more}
use Rattle.std.proofs.lemmas.List.Sums.{sum_by_push}
use Rattle.std.proofs.Math.Logic.{⊎_elim}
use Rattle.heap_words.specs.Contents.{Contents, stack_of, with_stack}

-- the elements below a number are those that a function gives, and the others are as before
pub record Done {A : Type 0} (f : A → A) (d : A) (was now : List A) (k : ℕ) : Type 0 where
  pub size : length now ≡ length was
  pub done : (j : ℕ) → j < k → j < length was → get_or now j d ≡ f (get_or was j d)
  pub rest : (j : ℕ) → k ≤ j → get_or now j d ≡ get_or was j d

pub done-none : {A : Type 0} (f : A → A) (d : A) (was : List A) → Done f d was was 0
done-none f d was = record { size = refl; done = λ j lt. absurd (omega arith); rest = λ j le. refl }

pub done-more : {A : Type 0} (f : A → A) (d : A) (was now : List A) (k : ℕ) → Done f d was now k → k < length was → Done f d was (set now k (f (get_or now k d))) (k + 1)
done-more f d was now k h lt =
    let v = f (get_or now k d) in
    let within : k < length now = rw h.size lt in
    record {
      size = length-set now k v ∙ h.size;
      done = λ j lj in_was. ⊎_elim
          (λ (e : j ≡ k). rw e (get_or-set_same now k v d within ∙ ap f (h.rest k (omega arith))))
          (λ (ne : j ≡ k → ⊥). get_or-set_other now k j v d ne ∙ h.done j (omega arith) in_was)
          (cases_eq j k);
      rest = λ j le. get_or-set_other now k j v d (λ e. omega arith) ∙ h.rest j (omega arith);
    }

pub done-all : {A : Type 0} (f : A → A) (d : A) (was now : List A) (k : ℕ) → Done f d was now k → length was ≤ k → now ≡ map f was
done-all f d was now k h le = ext_get_or d now (map f was) (h.size ∙ sym (length-map was f)) (λ i lt.
    let in_was : i < length was = rw (← h.size) lt in
    h.done i (omega arith) in_was ∙ sym (get_or-map f was i d d in_was))

-- one slot more in the contents
pub stack-next : (c mid new : Contents) (t : ℕ) (xs : List ℕ) → mid ≡ with_stack c t (stack_of mid t) → new ≡ with_stack mid t xs → new ≡ with_stack c t xs
stack-next c mid new t xs p q = q ∙ ap (λ (x : Contents). with_stack x t xs) p ∙ ap (λ (ss : List (List ℕ)). let x : Contents = record c { stacks = ss } in x) (set-set c.stacks (t - 1) (stack_of mid t) xs)

pub stack-written : (mid new : Contents) (t : ℕ) (xs : List ℕ) → new ≡ with_stack mid t xs → t - 1 < length mid.stacks → stack_of new t ≡ xs
stack-written mid new t xs e within = ap (λ (x : Contents). stack_of x t) e ∙ get_or-set_same mid.stacks (t - 1) xs [] within

-- one stack more
pub stacks-next : (c mid new : Contents) (t : ℕ) (xs : List ℕ) → mid ≡ record c { stacks = mid.stacks } → new ≡ with_stack mid t xs → new ≡ record c { stacks = set mid.stacks (t - 1) xs }
stacks-next c mid new t xs p q = q ∙ ap (λ (x : Contents). let y : Contents = record x { stacks = set mid.stacks (t - 1) xs } in y) p

pub sum-more : (f : List ℕ → ℕ) (xs : List (List ℕ)) (t : ℕ) → t < length xs → sum_by f (take (t + 1) xs) ≡ sum_by f (take t xs) + f (get_or xs t [])
sum-more f xs t lt = ap (sum_by f) (take_more xs t [] lt) ∙ sum_by_push f (take t xs) (get_or xs t [])
