-- Lawful histories that grow by the entries of a call.
use Rattle.std.proofs.Common.{◌≡◌, ◌⊎◌, ℕ, List, [], ◌∷◌, ◌++◌, refl, sym, ap, subst, inl, inr, append_assoc}
use Rattle.std.proofs.lemmas.List.{append-nil}
use Rattle.yak_model.specs.Continued.{AreLawful}
use Rattle.yak_model.specs.History.{Entry, Said, Collected}
use Rattle.yak_model.specs.Lawful.{BeginsWithCause, IsEntryLawful}
use Rattle.yak_model.specs.Spaces.{SpaceState, TurnsAll}
use Rattle.yak_model.specs.Unique.{StatesAreUnique}
use Rattle.yak_model.proofs.Turned.{turns_between, turns_unique}

-- each entry of a history from a state on may come where it comes
abbrev pub EachLawful : ℕ → SpaceState → List Entry → Type 0
EachLawful pages start history =
    (before rest : List Entry) (entry : Entry) (s : SpaceState) → history ≡ before ++ entry ∷ rest → TurnsAll start before s → IsEntryLawful pages before s entry rest

-- an entry stands in the first list or in the second
record InFirst (first second before : List Entry) (entry : Entry) (rest : List Entry) : Type 0 where
  middle : List Entry
  whole : first ≡ before ++ entry ∷ middle
  after : rest ≡ middle ++ second

record InSecond (first second before : List Entry) (entry : Entry) (rest : List Entry) : Type 0 where
  middle : List Entry
  whole : before ≡ first ++ middle
  after : second ≡ middle ++ entry ∷ rest

heads : (a b : Entry) (xs ys : List Entry) → a ∷ xs ≡ b ∷ ys → a ≡ b
heads a b xs ys e = cc e

tails : (a b : Entry) (xs ys : List Entry) → a ∷ xs ≡ b ∷ ys → xs ≡ ys
tails a b xs ys e = cc e

where_it_stands : (first second before : List Entry) (entry : Entry) (rest : List Entry) → first ++ second ≡ before ++ entry ∷ rest
    → InFirst first second before entry rest ⊎ InSecond first second before entry rest
where_it_stands [] second before entry rest e = inr (record { middle = before; whole = refl; after = e })
where_it_stands (x ∷ first) second [] entry rest e =
    inl (record { middle = first; whole = ap (λ (y : Entry). y ∷ first) (heads _ _ _ _ e); after = sym (tails _ _ _ _ e) })
where_it_stands (x ∷ first) second (y ∷ before) entry rest e =
    elim (where_it_stands first second before entry rest (tails _ _ _ _ e)) [
      | inl here ↦ inl (record { middle = here.middle; whole = rw (heads _ _ _ _ e) (ap (λ (l : List Entry). y ∷ l) here.whole); after = here.after })
      | inr there ↦ inr (record { middle = there.middle; whole = rw (heads _ _ _ _ e) (ap (λ (l : List Entry). y ∷ l) there.whole); after = there.after })
    ]

-- what follows later doesn't matter
cause_more : (rest more : List Entry) (t : ℕ) → BeginsWithCause rest t → BeginsWithCause (rest ++ more) t
cause_more rest more t (inl (k, said, after, is, which)) = inl (k, said, after ++ more, ap (λ (l : List Entry). l ++ more) is, which)
cause_more rest more t (inr (moved, tight, after, is)) = inr (moved, tight, after ++ more, ap (λ (l : List Entry). l ++ more) is)

lawful_before : (pages : ℕ) (before : List Entry) (s : SpaceState) (entry : Entry) (rest more : List Entry) → IsEntryLawful pages before s entry rest → IsEntryLawful pages before s entry (rest ++ more)
lawful_before pages before s (Said t asked said) rest more h = h
lawful_before pages before s (Collected t) rest more h = cause_more rest more t h

lawful_within : (pages : ℕ) (before middle : List Entry) (entry : Entry) (rest : List Entry) (s last : SpaceState)
    → AreLawful pages before s (middle ++ entry ∷ rest) → TurnsAll s middle last → IsEntryLawful pages (before ++ middle) last entry rest
lawful_within pages before [] entry rest s last h turned = rw (append-nil before, turned) h.0
lawful_within pages before (first ∷ middle) entry rest s last h turned =
    subst (λ (l : List Entry). IsEntryLawful pages l last entry rest) (append_assoc before (first ∷ []) middle)
    (lawful_within pages (before ++ first ∷ []) middle entry rest turned.0 last (h.1 turned.0 turned.1) turned.2)

-- the entries that follow a history, from the state that it leaves
pub lawful_more : StatesAreUnique → (pages : ℕ) (start state : SpaceState) (history more : List Entry) → TurnsAll start history state
    → EachLawful pages start history → AreLawful pages history state more → EachLawful pages start (history ++ more)
lawful_more unique pages start state history more leaves lawful next before rest entry s is turned =
    elim (where_it_stands history more before entry rest is) [
      | inl here ↦ rw here.after (lawful_before pages before s entry here.middle more (lawful before here.middle entry s here.whole turned))
      | inr there ↦
          let between = turns_between start s history there.middle (subst (λ (l : List Entry). TurnsAll start l s) there.whole turned) in
          let same : between.0 ≡ state = turns_unique unique history start between.0 state between.1 leaves in
          rw there.whole (lawful_within pages history there.middle entry rest state s (subst (AreLawful pages history state) there.after next)
          (subst (λ (m : SpaceState). TurnsAll m there.middle s) same between.2))
    ]

none_first : (before rest : List Entry) (entry : Entry) → [] ≡ before ++ entry ∷ rest → ⊥
none_first [] rest entry e = cc e
none_first (x ∷ before) rest entry e = cc e

-- no entries
pub lawful_none : (pages : ℕ) (start : SpaceState) → EachLawful pages start []
lawful_none pages start before rest entry s is turned = absurd (none_first before rest entry is)
