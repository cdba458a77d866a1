-- A thread's own list and the history of which it is the part.
use Rattle.std.proofs.Common.{◌≡◌, ℕ, List, [], ◌∷◌, ◌++◌, Bool, true, false, cond, eqb, refl, sym, ap, ◌∙◌}
use Rattle.yak_model.specs.declared.history.Entry.{Entry}
use Rattle.yak_model.specs.History.{caller, part}

-- where an entry of a thread stands in its own list, the history has it between a history of which the entries before it are the
-- part, and one of which those after it are
pub record IsParted (t : ℕ) (history own : List Entry) (entry : Entry) (more : List Entry) : Type 0 where
  pub before : List Entry
  pub after : List Entry
  pub whole : history ≡ before ++ entry ∷ after
  pub own_is : part before t ≡ own
  pub more_is : part after t ≡ more

none_before : (own more : List Entry) (entry : Entry) → [] ≡ own ++ entry ∷ more → ⊥
none_before [] more entry e = cc e
none_before (x ∷ own) more entry e = cc e

-- whether an entry is of the thread
module _ (t : ℕ) where
  own_part : (x : Entry) (history : List Entry) → eqb (caller x) t ≡ true → part (x ∷ history) t ≡ x ∷ part history t
  own_part x history e = ap (λ (b : Bool). cond b (x ∷ part history t) (part history t)) e

  other_part : (x : Entry) (history : List Entry) → eqb (caller x) t ≡ false → part (x ∷ history) t ≡ part history t
  other_part x history e = ap (λ (b : Bool). cond b (x ∷ part history t) (part history t)) e

  pub parted_from : (history own more : List Entry) (entry : Entry) → part history t ≡ own ++ entry ∷ more → IsParted t history own entry more
  parted_from [] own more entry e = absurd (none_before own more entry e)
  parted_from (x ∷ history) own more entry e =
      elim (eqb (caller x) t) as (λ b. eqb (caller x) t ≡ b → IsParted t (x ∷ history) own entry more) [
        | true ↦ λ is. owned (λ o f. parted_from history o more entry f) own is (sym (own_part x history is) ∙ e)
        | false ↦ λ is.
            let rest = parted_from history own more entry (sym (other_part x history is) ∙ e) in
            record { before = x ∷ rest.before; after = rest.after; whole = ap (λ l. x ∷ l) rest.whole; own_is = other_part x rest.before is ∙ rest.own_is; more_is = rest.more_is }
      ] refl
    where
      owned : ((o : List Entry) → part history t ≡ o ++ entry ∷ more → IsParted t history o entry more) → (own : List Entry) → eqb (caller x) t ≡ true → x ∷ part history t ≡ own ++ entry ∷ more → IsParted t (x ∷ history) own entry more
      owned next [] is f = record { before = []; after = history; whole = λ i. first f i ∷ history; own_is = refl; more_is = tails f }
        where
          first : x ∷ part history t ≡ entry ∷ more → x ≡ entry
          first f = cc f

          tails : x ∷ part history t ≡ entry ∷ more → part history t ≡ more
          tails f = cc f
      owned next (y ∷ own) is f =
          let same : x ≡ y = heads f in
          let rest = next own (tails f) in
          record { before = x ∷ rest.before; after = rest.after; whole = ap (λ l. x ∷ l) rest.whole; own_is = own_part x rest.before is ∙ (λ i. same i ∷ rest.own_is i); more_is = rest.more_is }
        where
          heads : x ∷ part history t ≡ y ∷ own ++ entry ∷ more → x ≡ y
          heads f = cc f

          tails : x ∷ part history t ≡ y ∷ own ++ entry ∷ more → part history t ≡ own ++ entry ∷ more
          tails f = cc f
