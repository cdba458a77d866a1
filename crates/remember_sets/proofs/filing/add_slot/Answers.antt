use Rattle.std.proofs.Common.{◌≡◌, ◌⊎◌, ℕ, List, ◌∷◌, true, false, refl, sym, ap, subst, ◌∙◌}
use Rattle.std.specs.List.{Contains}
use Rattle.std.proofs.Math.Logic.{⊎_elim}
use Rattle.std.proofs.lemmas.Bool.{cases_eq, cond-false, cond-true}
use Rattle.heap_words.specs.declared.map.Areas.{Areas}
use Rattle.heap_words.specs.Map.{IsAreas}
use Rattle.heap_words.specs.Contents.{Contents, contents}
use Rattle.epoch_lattice.specs.declared.Space.{Space}
use Rattle.epoch_lattice.specs.Lattice.{space_index}
use Rattle.yak_model.specs.Chains.{IsRegionOf}
use Rattle.yak_model.proofs.Chains.{region-own}
use Rattle.remember_sets.specs.Filed.{chain, enters, filed, without_slot}
use Rattle.remember_sets.proofs.Slots.{without-contains}
use Rattle.remember_sets.proofs.Entering.{enters-none, enters-once, enters-same, enters-tells, slot-same}
use Rattle.remember_sets.proofs.filing.add_slot.Goals as goal

pub entered-requires-clause-slot : goal.entered-requires-clause-slot
entered-requires-clause-slot g c =
    let m : Areas = c.args.map in
    slot-same m (contents m (g.W.Words.words c.args.words.now)) (contents m (g.W.Words.words c.drop_slot.new.words)) c.args.slot.0 (ap (λ (k : Contents). k.heap) c.drop_slot.ensures.others) c.requires.slot

pub put_first-requires-clause-new : goal.put_first-requires-clause-new
put_first-requires-clause-new g c f =
    let m : Areas = c.args.map in
    let d : Contents = contents m (g.W.Words.words c.args.words.now) in
    let e : Contents = contents m (g.W.Words.words c.drop_slot.new.words) in
    let same : contents m (g.W.Words.words c.entered.new.words) ≡ e = ap (contents m) c.entered.ensures.words in
    let i : Contains (without_slot c.args.slot.0 (chain m d f.0)) c.args.slot.0 = subst (λ (l : List ℕ). Contains l c.args.slot.0) (ap (λ (k : Contents). chain m k f.0) same ∙ c.drop_slot.ensures.dropped f.0 f.1) f.2 in
    (without-contains c.args.slot.0 c.args.slot.0 (chain m d f.0) i).0 refl

-- the chains of the words after the slot was put in
put-filed : (m : Areas) (d e k : Contents) (a : ℕ) (y : Space) → IsAreas m → e.heap ≡ d.heap → e.table ≡ d.table → ((x : Space) → IsRegionOf m x → chain m e x ≡ without_slot a (chain m d x)) → IsRegionOf m y → enters m e y a ≡ true → chain m k y ≡ a ∷ chain m e y → ((x : Space) → IsRegionOf m x → (x ≡ y → ⊥) → chain m k x ≡ chain m e x) → (x : Space) → IsRegionOf m x → chain m k x ≡ filed m d x a (chain m d x)
put-filed m d e k a y areas he ta gone q t here elsewhere x r =
    let at_y : enters m d y a ≡ true = sym (enters-same m d e y a he ta) ∙ t in
    ⊎_elim (λ (z : space_index y ≡ space_index x).
    subst (λ s. chain m k s ≡ filed m d s a (chain m d s)) (region-own m y x areas q r z)
    (here ∙ ap (λ (l : List ℕ). a ∷ l) (gone y q) ∙ sym (cond-true (enters m d y a) (a ∷ without_slot a (chain m d y)) (without_slot a (chain m d y)) at_y)))
    (λ (n : space_index y ≡ space_index x → ⊥).
    let no : enters m d x a ≡ false = enters-none m d x a (λ h. n (ap space_index (enters-once m d y x a areas q r (enters-tells m d y a at_y) h))) in
    elsewhere x r (λ z. n (ap space_index (sym z))) ∙ gone x r ∙ sym (cond-false (enters m d x a) (a ∷ without_slot a (chain m d x)) (without_slot a (chain m d x)) no))
    (cases_eq (space_index y) (space_index x))

pub returns-in-Some-clause-filed : goal.returns-in-Some-clause-filed
returns-in-Some-clause-filed g c x r =
    let m : Areas = c.args.map in
    let d : Contents = contents m (g.W.Words.words c.args.words.now) in
    let e : Contents = contents m (g.W.Words.words c.drop_slot.new.words) in
    let k : Contents = contents m (g.W.Words.words c.put_first.new.words) in
    let same : contents m (g.W.Words.words c.entered.new.words) ≡ e = ap (contents m) c.entered.ensures.words in
    let others = c.drop_slot.ensures.others in
    let h = c.in-Some.ensures.entered in
    put-filed m d e k c.args.slot.0 c.in-Some.region c.requires.sound.areas (ap (λ (k : Contents). k.heap) others) (ap (λ (k : Contents). k.table) others) c.drop_slot.ensures.dropped h.0 h.1
    (c.put_first.ensures.here ∙ ap (λ (y : Contents). c.args.slot.0 ∷ chain m y c.in-Some.region) same)
    (λ y q n. c.put_first.ensures.elsewhere y q n ∙ ap (λ (z : Contents). chain m z y) same) x r

pub returns-in_default-clause-filed : goal.returns-in_default-clause-filed
returns-in_default-clause-filed g c x r =
    let m : Areas = c.args.map in
    let d : Contents = contents m (g.W.Words.words c.args.words.now) in
    let e : Contents = contents m (g.W.Words.words c.drop_slot.new.words) in
    let same : contents m (g.W.Words.words c.entered.new.words) ≡ e = ap (contents m) c.entered.ensures.words in
    let others = c.drop_slot.ensures.others in
    let a : ℕ = c.args.slot.0 in
    let no : enters m d x a ≡ false = sym (enters-same m d e x a (ap (λ (k : Contents). k.heap) others) (ap (λ (k : Contents). k.table) others)) ∙ c.in_default.ensures.entered x r in
    ap (λ (k : Contents). chain m k x) same ∙ c.drop_slot.ensures.dropped x r ∙ sym (cond-false (enters m d x a) (a ∷ without_slot a (chain m d x)) (without_slot a (chain m d x)) no)
