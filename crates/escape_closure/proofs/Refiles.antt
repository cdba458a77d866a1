-- The slots of a chain are filed anew, one after another.
use Rattle.std.proofs.Common.{◌≡◌, ◌≢◌, ◌≤◌, ◌<◌, ◌+◌, ◌-◌, ◌∷◌, ℕ, false, List, drop, get_or, length, take, sym, ap, subst, ◌∙◌, arith, length-drop}
use Rattle.std.specs.List.{All, AllPairs}
use Rattle.std.proofs.lemmas.Bool.{cond-false}
use Rattle.std.proofs.lemmas.List.{drop-drop, drop_more, get_or-drop}
use Rattle.std.proofs.lemmas.List.Elements.{All-get_or}
use Rattle.heap_words.specs.declared.map.Areas.{Areas}
use Rattle.heap_words.specs.Contents.{Contents}
use Rattle.epoch_lattice.specs.declared.Space.{Space}
use Rattle.yak_model.specs.Chains.{IsRegionOf}
use Rattle.remember_sets.specs.Filed.{ChainsBecome, IsSlot, SetsHold, all_filed, chain, enters, filed, with_sets, without_slot}
use Rattle.remember_sets.proofs.Slots.{pairs-head, without-none, without-same}
use Rattle.remember_sets.proofs.Entering.{enters-same, slot-same}
use Rattle.remember_sets.proofs.Folded.{all_filed-more, filed-same}

-- a list with a first element
pub head-split : (l : List ℕ) (a : ℕ) → 0 < length l → get_or l 0 0 ≡ a → l ≡ a ∷ drop 1 l
head-split l a lt e = drop_more l 0 0 lt ∙ ap (λ x. x ∷ drop 1 l) e

-- the slots of a region's chain before, and those of now, of which the first is filed
pub record Refiling (m : Areas) (was mid : Contents) (r : Space) (a : ℕ) : Type 0 where
  pub region : IsRegionOf m r
  pub sets : SetsHold m mid
  pub others : mid ≡ with_sets was mid
  pub rest : chain m mid r ≡ drop (length (chain m was r) - length (chain m mid r)) (chain m was r)
  pub fewer : length (chain m mid r) ≤ length (chain m was r)
  pub some : 0 < length (chain m mid r)
  pub first : get_or (chain m mid r) 0 0 ≡ a

-- the first slot by its place in the chain before
pub place-of : (m : Areas) (was mid : Contents) (r : Space) (a : ℕ) → Refiling m was mid r a → (let k = length (chain m was r) - length (chain m mid r) in (k < length (chain m was r)) × (get_or (chain m was r) k 0 ≡ a))
place-of m was mid r a h =
    let k : ℕ = length (chain m was r) - length (chain m mid r) in
    let at : get_or (chain m mid r) 0 0 ≡ get_or (chain m was r) (k + 0) 0 = ap (λ (l : List ℕ). get_or l 0 0) h.rest ∙ get_or-drop k (chain m was r) 0 0 in
    let same : k + 0 ≡ k = omega arith in
    (omega (arith, h.some, h.fewer), sym (ap (λ n. get_or (chain m was r) n 0) same) ∙ sym at ∙ h.first)

pub first-slot : (m : Areas) (was mid : Contents) (r : Space) (a : ℕ) → Refiling m was mid r a → All (IsSlot m was) (chain m was r) → IsSlot m mid a
first-slot m was mid r a h slots =
    let p = place-of m was mid r a h in
    slot-same m was mid a (ap (λ (x : Contents). x.heap) h.others) (subst (IsSlot m was) p.1 (All-get_or (IsSlot m was) (chain m was r) (length (chain m was r) - length (chain m mid r)) 0 p.0 slots))

-- the chain of the region loses its first slot
pub less : (m : Areas) (was mid new : Contents) (r : Space) (a : ℕ) → Refiling m was mid r a → All (λ b. enters m was r b ≡ false) (chain m was r) → chain m new r ≡ filed m mid r a (chain m mid r) → chain m new r ≡ drop 1 (chain m mid r)
less m was mid new r a h left e =
    let p = place-of m was mid r a h in
    let no_was : enters m was r a ≡ false = subst (λ b. enters m was r b ≡ false) p.1 (All-get_or (λ b. enters m was r b ≡ false) (chain m was r) (length (chain m was r) - length (chain m mid r)) 0 p.0 left) in
    let no : enters m mid r a ≡ false = enters-same m was mid r a (ap (λ (x : Contents). x.heap) h.others) (ap (λ (x : Contents). x.table) h.others) ∙ no_was in
    let split : chain m mid r ≡ a ∷ drop 1 (chain m mid r) = head-split (chain m mid r) a h.some h.first in
    let once : AllPairs (λ (x y : ℕ). x ≢ y) (a ∷ drop 1 (chain m mid r)) = subst (AllPairs (λ (x y : ℕ). x ≢ y)) split (h.sets.once r h.region) in
    e ∙ cond-false (enters m mid r a) (a ∷ without_slot a (chain m mid r)) (without_slot a (chain m mid r)) no
    ∙ ap (without_slot a) split ∙ without-same a (drop 1 (chain m mid r)) ∙ without-none a (drop 1 (chain m mid r)) (pairs-head a (drop 1 (chain m mid r)) once)

-- one slot more
pub record Refiled (m : Areas) (was new : Contents) (r : Space) (before : ℕ) : Type 0 where
  pub filed : ChainsBecome m was new (λ x s. all_filed m was x (take (length (chain m was r) - length (chain m new r)) (chain m was r)) s)
  pub rest : chain m new r ≡ drop (length (chain m was r) - length (chain m new r)) (chain m was r)
  pub fewer : length (chain m new r) + 1 ≡ before

pub refiled-more : (m : Areas) (was mid new : Contents) (r : Space) (a : ℕ) → Refiling m was mid r a → All (λ b. enters m was r b ≡ false) (chain m was r) → ChainsBecome m was mid (λ x s. all_filed m was x (take (length (chain m was r) - length (chain m mid r)) (chain m was r)) s) → ChainsBecome m mid new (λ x s. filed m mid x a s) → Refiled m was new r (length (chain m mid r))
refiled-more m was mid new r a h left before step =
    let slots : List ℕ = chain m was r in
    let k : ℕ = length slots - length (chain m mid r) in
    let gone : chain m new r ≡ drop 1 (chain m mid r) = less m was mid new r a h left (step r h.region) in
    let one : length (chain m new r) + 1 ≡ length (chain m mid r) = omega (arith, ap (λ (l : List ℕ). length l) gone, length-drop 1 (chain m mid r), h.some) in
    let next : length slots - length (chain m new r) ≡ k + 1 = omega (arith, one, h.fewer) in
    let p = place-of m was mid r a h in
    record {
      filed = λ x q.
          step x q ∙ filed-same m was mid x a (chain m mid x) (ap (λ (y : Contents). y.heap) h.others) (ap (λ (y : Contents). y.table) h.others) ∙ ap (filed m was x a) (before x q) ∙ ap (λ b. filed m was x b (all_filed m was x (take k slots) (chain m was x))) (sym p.1) ∙ sym (all_filed-more m was x slots (chain m was x) k p.0) ∙ ap (λ n. all_filed m was x (take n slots) (chain m was x)) (sym next);
      rest = gone ∙ ap (drop 1) h.rest ∙ drop-drop 1 k slots ∙ ap (λ n. drop n slots) (sym next);
      fewer = one;
    }
