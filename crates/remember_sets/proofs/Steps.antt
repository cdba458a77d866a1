-- What the calls on one slot do to the chains that words hold.
use Rattle.std.proofs.Common.{◌≡◌, ◌≢◌, ◌⊎◌, ℕ, ◌+◌, ◌-◌, ◌<◌, List, ◌∷◌, ◌++◌, cond, eqb, refl, sym, ap, subst, ◌∙◌, arith}
use Rattle.std.specs.List.{Contains}
use Rattle.std.proofs.Math.Logic.{⊎_elim}
use Rattle.std.proofs.lemmas.Bool.{cond-false, cond-true, eq-eqb, ne_eqb}
use Rattle.heap_words.specs.declared.map.Areas.{Areas}
use Rattle.heap_words.specs.Map.{IsAreas, heap_length}
use Rattle.heap_words.specs.Contents.{Contents, Sound, contents}
use Rattle.heap_words.proofs.Contents.{length-firsts, length-firsts_row, length-sets}
use Rattle.epoch_lattice.specs.declared.Space.{Space}
use Rattle.epoch_lattice.specs.Lattice.{space_index}
use Rattle.yak_model.specs.Chains.{AreChains, IsRegionOf, former_from, former_word, next_to, next_word}
use Rattle.yak_model.proofs.Chains.{chained-or, links-chains, region-own}
use Rattle.remember_sets.specs.Filed.{IsFiled, SetsHold, chain, without_slot}
use Rattle.remember_sets.specs.Linking.{IsFormer, IsNext, former_to, with_former, with_links, with_next}
use Rattle.remember_sets.proofs.Edits.{Edit, Whole, edited}
use Rattle.remember_sets.proofs.Linked.{PutIn, Stood, fits-neighbours, linked-next, put-in, stood, taken-out}

pub whole-of : (m : Areas) (ws : List ℕ) → Sound m ws → Whole m (contents m ws)
whole-of m ws s = record {
  areas = s.areas;
  sets = length-sets m ws s.whole;
  firsts = length-firsts m ws;
  rows = λ t ht. length-firsts_row m ws t ht s.whole;
}

-- a slot whose first word isn't 0 stands in a chain
pub record Found (m : Areas) (c : Contents) (a : ℕ) : Type 0 where
  pub region : Space
  pub is_region : IsRegionOf m region
  pub stood : Stood m c (chain m c) region a

pub found : (m : Areas) (c : Contents) (a : ℕ) → SetsHold m c → a < heap_length m → next_word c.sets a ≢ 0 → Found m c a
found m c a h lt some =
    ⊎_elim (λ (i : (x : Space) × IsRegionOf m x × Contains (chain m c x) a). record { region = i.0; is_region = i.1; stood = stood m c (chain m c) i.0 a h i.1 i.2 })
    (λ (none : (x : Space) → IsRegionOf m x → Contains (chain m c x) a → ⊥). absurd (some (h.free a lt none).0))
    (chained-or m (chain m c) a)

-- a slot whose first word is 0 stands in none
pub not-filed : (m : Areas) (c : Contents) (a : ℕ) → SetsHold m c → next_word c.sets a ≡ 0 → (x : Space) → IsRegionOf m x → Contains (chain m c x) a → ⊥
not-filed m c a h z x q i = omega (arith, z, linked-next c.sets (space_index x) (chain m c x) a (h.linked x q) i)

-- a slot is taken out of its chain
pub dropped : (m : Areas) (c d : Contents) (a next former : ℕ) → Whole m c → SetsHold m c → a < heap_length m → next ≡ next_word c.sets a → former ≡ former_word c.sets a → (f : Found m c a) → d ≡ with_links (with_former (with_next c former next) next former) a 0 0 → AreChains m d.firsts d.sets (λ y. without_slot a (chain m c y))
dropped m c d a next former w h lt ne fe f e =
    let n : ℕ = next_word c.sets a in
    let o : ℕ = former_word c.sets a in
    let at : d ≡ with_links (with_former (with_next c o n) n o) a 0 0 = e ∙ ap (λ k. with_links (with_former (with_next c former k) k former) a 0 0) ne ∙ ap (λ k. with_links (with_former (with_next c k n) n k) a 0 0) fe in
    let edit : Edit m c d o n n o a 0 0 = subst (λ (y : Contents). Edit m c y o n n o a 0 0) (sym at) (edited m c o n n o a 0 0 w f.stood.is_former f.stood.is_next f.stood.is_next.0 lt) in
    links-chains m d.firsts d.sets (λ y. without_slot a (chain m c y)) w.areas (taken-out m c d (chain m c) f.region a w.areas h f.is_region f.stood edit)

-- the chains after a slot was put between two neighbours
pub put_chains : (Space → List ℕ) → Space → List ℕ → List ℕ → ℕ → Space → List ℕ
put_chains ch x l1 l2 a y = cond (eqb (space_index y) (space_index x)) (l1 ++ a ∷ l2) (ch y)

pub put-here : (ch : Space → List ℕ) (x : Space) (l1 l2 : List ℕ) (a : ℕ) → put_chains ch x l1 l2 a x ≡ l1 ++ a ∷ l2
unfolding put_chains
put-here ch x l1 l2 a = cond-true (eqb (space_index x) (space_index x)) (l1 ++ a ∷ l2) (ch x) (eq-eqb (space_index x) (space_index x) refl)

pub put-elsewhere : (m : Areas) (ch : Space → List ℕ) (x y : Space) (l1 l2 : List ℕ) (a : ℕ) → IsAreas m → IsRegionOf m x → IsRegionOf m y → (y ≡ x → ⊥) → put_chains ch x l1 l2 a y ≡ ch y
unfolding put_chains
put-elsewhere m ch x y l1 l2 a areas q r n = cond-false (eqb (space_index y) (space_index x)) (l1 ++ a ∷ l2) (ch y) (ne_eqb (space_index y) (space_index x) (λ e. n (region-own m y x areas r q e)))

pub put : (m : Areas) (c d : Contents) (x : Space) (l1 l2 : List ℕ) (a former next : ℕ) → Whole m c → SetsHold m c → IsRegionOf m x → chain m c x ≡ l1 ++ l2 → a < heap_length m → (IsFiled m c a → ⊥) → former ≡ former_to (space_index x) l1 → next ≡ next_to l2 → d ≡ with_links (with_former (with_next c former (a + 2)) next (a + former_from)) a next former → AreChains m d.firsts d.sets (put_chains (chain m c) x l1 l2 a)
put m c d x l1 l2 a former next w h q was lt none fe ne e =
    let f = fits-neighbours m c (chain m c) x l1 l2 h q was in
    let p : PutIn m (chain m c) (put_chains (chain m c) x l1 l2 a) x l1 l2 a = record {
      region = q;
      was = was;
      here = put-here (chain m c) x l1 l2 a;
      elsewhere = λ y r n. put-elsewhere m (chain m c) x y l1 l2 a w.areas q r n;
      fits = lt;
      apart = λ y r i. none (y, r, i);
    } in
    let edit : Edit m c d former next (a + 2) (a + former_from) a next former = subst (λ (y : Contents). Edit m c y former next (a + 2) (a + former_from) a next former) (sym e) (edited m c former next (a + 2) (a + former_from) a next former w (subst (IsFormer m) (sym fe) f.0) (subst (IsNext m) (sym ne) f.1) (omega arith) lt) in
    links-chains m d.firsts d.sets (put_chains (chain m c) x l1 l2 a) w.areas (put-in m c d (chain m c) (put_chains (chain m c) x l1 l2 a) x l1 l2 a former next w.areas h p fe ne edit)
