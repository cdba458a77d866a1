use Rattle.std.proofs.Common.{◌≡◌, ℕ, zero, suc, ◌+◌, ◌-◌, ◌*◌, ◌<◌, List, [], length, get_or, replicate, refl, sym, ap, subst, ◌∙◌, arith}
use Rattle.std.proofs.lemmas.List.{get_or_default}
use Rattle.std.proofs.lemmas.List.Elements.{All-nil}
use Rattle.heap_words.specs.declared.map.Areas.{Areas}
use Rattle.heap_words.specs.Map.{IsAreas, heap_length, max_depth}
use Rattle.heap_words.specs.Contents.{Contents, contents, zero_contents}
use Rattle.epoch_lattice.specs.declared.Space.{Space}
use Rattle.epoch_lattice.specs.declared.Space.TheVariants.{Control, Region}
use Rattle.yak_model.specs.Chains.{IsRegionOf, head_word}
use Rattle.yak_model.specs.Stands.{SetsStand}
use Rattle.yak_model.proofs.Chains.{Links, links-chains, sets-stand}
use Rattle.remember_sets.specs.Filed.{IsFiled, chain}
use Rattle.remember_sets.proofs.tests.slots_stand_in_the_chain_of_their_region.Goals as goal

-- words that are all 0 hold empty chains
zeros : (n k : ℕ) → ◌≡◌ {A = ℕ} (get_or (replicate n 0) k 0) 0
zeros zero k = refl
zeros (suc n) zero = refl
zeros (suc n) (suc k) = zeros n k

zero-rows : (n d k j : ℕ) → ◌≡◌ {A = ℕ} (get_or (get_or (replicate n (replicate d 0)) k []) j 0) 0
zero-rows zero d k j = refl
zero-rows (suc n) d zero j = zeros d j
zero-rows (suc n) d (suc k) j = zero-rows n d k j

zero-head : (n d : ℕ) (x : Space) → head_word (replicate n (replicate d 0)) x ≡ 0
zero-head n d Control = refl
zero-head n d (Region t e) = zero-rows n d (t - 1) (e - 1)

zero-sets : (m : Areas) (firsts : List (List ℕ)) (sets : List ℕ) → IsAreas m → firsts ≡ replicate m.threads (replicate (max_depth m) 0) → sets ≡ replicate (2 * heap_length m) 0 → SetsStand m firsts sets
zero-sets m firsts sets areas f s =
    let none : Space → List ℕ = λ _. [] in
    let heads : (x : Space) → head_word firsts x ≡ 0 = λ x. ap (λ (fs : List (List ℕ)). head_word fs x) f ∙ zero-head m.threads (max_depth m) x in
    let word : (k : ℕ) → get_or sets k 0 ≡ 0 = λ k. ap (λ (ss : List ℕ). get_or ss k 0) s ∙ zeros (2 * heap_length m) k in
    let links : Links m firsts sets none = record {
      heads = λ x r. heads x;
      linked = λ x r. tt;
      within = λ x r. All-nil (λ a. a < heap_length m);
      free = λ a lt no. (word (2 * a), word (2 * a + 1));
    } in
    sets-stand m firsts sets none (links-chains m firsts sets none areas links)

-- the first slot of a chain stands in it
first-filed : (m : Areas) (c : Contents) (x : Space) (a : ℕ) → IsRegionOf m x → (0 < length (chain m c x)) × (get_or (chain m c x) 0 0 ≡ a) → IsFiled m c a
first-filed m c x a r h = (x, r, (0, h.0, get_or_default (chain m c x) 0 a 0 h.0 ∙ h.1))

first-region : (m : Areas) → m.threads ≡ 1 → IsRegionOf m (Region 1 1)
first-region m e = (omega arith, omega (arith, e), omega arith, omega arith)

pub add_slot-requires-clause-sets : goal.add_slot-requires-clause-sets
add_slot-requires-clause-sets g c =
    let m : Areas = c.map-map.result in
    let new : List ℕ = c.in-Ok.image.words.items in
    let zero_words : contents m new ≡ zero_contents m = subst (λ (k : Areas). contents k new ≡ zero_contents k) (sym c.map-map.ensures) c.in-Ok.ensures.contents in
    let firsts = ap (λ (x : Contents). x.firsts) c.set_heap-2.ensures.set ∙ ap (λ (x : Contents). x.firsts) c.set_heap.ensures.set ∙ ap (λ (x : Contents). x.firsts) c.set_page-2.ensures.set ∙ ap (λ (x : Contents). x.firsts) c.set_page.ensures.set ∙ ap (λ (x : Contents). x.firsts) zero_words in
    let sets = ap (λ (x : Contents). x.sets) c.set_heap-2.ensures.set ∙ ap (λ (x : Contents). x.sets) c.set_heap.ensures.set ∙ ap (λ (x : Contents). x.sets) c.set_page-2.ensures.set ∙ ap (λ (x : Contents). x.sets) c.set_page.ensures.set ∙ ap (λ (x : Contents). x.sets) zero_words in
    let d : Contents = contents m c.set_heap-2.new.words.words.items in
    zero-sets m d.firsts d.sets c.set_heap-2.ensures.sound.areas firsts sets

pub next_slot-requires-clause-filed : goal.next_slot-requires-clause-filed
next_slot-requires-clause-filed g c =
    let m : Areas = c.map-map.result in
    let one = first-region m (ap (λ (k : Areas). k.threads) (c.map-map.ensures ∙ c.in-Ok.ensures.map)) in
    subst (λ (ws : List ℕ). IsFiled m (contents m ws) c.in-Some.slot.0) (sym c.in-Some.ensures.words) (first-filed m (contents m c.add_slot-3.new.words.words.items) (Region 1 1) c.in-Some.slot.0 one c.in-Some.ensures.first)

pub move_slot-requires-clause-filed : goal.move_slot-requires-clause-filed
move_slot-requires-clause-filed g c =
    let m : Areas = c.map-map.result in
    let one = first-region m (ap (λ (k : Areas). k.threads) (c.map-map.ensures ∙ c.in-Ok.ensures.map)) in
    subst (λ (ws : List ℕ). IsFiled m (contents m ws) c.in-Some.slot.0) (sym (c.is_filed-2.ensures.words ∙ c.is_filed.ensures.words ∙ c.next_slot.ensures.words ∙ c.in-Some.ensures.words)) (first-filed m (contents m c.add_slot-3.new.words.words.items) (Region 1 1) c.in-Some.slot.0 one c.in-Some.ensures.first)
