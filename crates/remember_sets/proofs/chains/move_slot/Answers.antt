use Rattle.std.proofs.Common.{◌≡◌, ◌≢◌, ◌⊎◌, ◌+◌, ℕ, List, ◌∷◌, ◌++◌, sym, ap, subst, ◌∙◌}
use Rattle.std.specs.List.{Contains}
use Rattle.std.proofs.Math.Logic.{⊎_elim}
use Rattle.std.proofs.lemmas.List.Elements.{Contains-append_right}
use Rattle.heap_words.specs.declared.map.Areas.{Areas}
use Rattle.heap_words.specs.Contents.{Contents, contents}
use Rattle.epoch_lattice.specs.declared.Space.{Space}
use Rattle.epoch_lattice.specs.Lattice.{space_index}
use Rattle.yak_model.specs.Chains.{IsRegionOf, former_word, next_to, next_word}
use Rattle.yak_model.proofs.Chains.{contains-here, contains-or}
use Rattle.remember_sets.specs.Filed.{IsFiled, SetsHold, chain, moved_slot, without_slot}
use Rattle.remember_sets.specs.Linking.{former_to}
use Rattle.remember_sets.proofs.Slots.{moved-middle, moved-none, moved-same, without-contains, without-middle, without-none}
use Rattle.remember_sets.proofs.Linked.{Stood, stood}
use Rattle.remember_sets.proofs.chains.move_slot.Goals as goal

pub returns-then-new-old-clause-moved : goal.returns-then-new-old-clause-moved
returns-then-new-old-clause-moved g c x q =
    let l : List ℕ = chain c.args.map (contents c.args.map (g.W.Words.words c.args.words.now)) x in
    let same : c.args.new.0 ≡ c.args.old.0 = cc in
    subst (λ n. l ≡ moved_slot c.args.old.0 n l) (sym same) (sym (moved-same c.args.old.0 l))

-- the slot stood in a chain, and its neighbours are there without it
record Moving (m : Areas) (d e : Contents) (a former next : ℕ) : Type 0 where
  x : Space
  region : IsRegionOf m x
  stand : Stood m d (chain m d) x a
  left : chain m e x ≡ stand.before ++ stand.behind
  former_is : former ≡ former_to (space_index x) stand.before
  next_is : next ≡ next_to stand.behind

moving : (m : Areas) (d e : Contents) (a former next : ℕ) → SetsHold m d → IsFiled m d a → ((y : Space) → IsRegionOf m y → chain m e y ≡ without_slot a (chain m d y)) → next ≡ next_word d.sets a → former ≡ former_word d.sets a → Moving m d e a former next
moving m d e a former next h f gone ne fe =
    let s : Stood m d (chain m d) f.0 a = stood m d (chain m d) f.0 a h f.1 f.2 in
    record {
      x = f.0;
      region = f.1;
      stand = s;
      left = gone f.0 f.1 ∙ ap (without_slot a) s.chain_is ∙ without-middle a s.before s.behind s.not_before s.not_behind;
      former_is = fe ∙ s.former;
      next_is = ne ∙ s.next;
    }

-- a slot that stood in no chain before stands in none without another one
still-none : (m : Areas) (d e : Contents) (a b : ℕ) → b ≢ a → ((b ≡ a) ⊎ (IsFiled m d b → ⊥)) → ((y : Space) → IsRegionOf m y → chain m e y ≡ without_slot a (chain m d y)) → IsFiled m e b → ⊥
still-none m d e a b ne new gone f =
    ⊎_elim (λ z. ne z) (λ n. n (f.0, f.1, (without-contains a b (chain m d f.0) (subst (λ (l : List ℕ). Contains l b) (gone f.0 f.1) f.2)).1)) new

-- the chains after the move
moved : (m : Areas) (d e k : Contents) (a b former next : ℕ) → SetsHold m d → (p : Moving m d e a former next) → ((y : Space) → IsRegionOf m y → chain m e y ≡ without_slot a (chain m d y)) → (chain m k p.x ≡ p.stand.before ++ b ∷ p.stand.behind) × ((y : Space) → IsRegionOf m y → (y ≡ p.x → ⊥) → chain m k y ≡ chain m e y) → (y : Space) → IsRegionOf m y → chain m k y ≡ moved_slot a b (chain m d y)
moved m d e k a b former next h p gone put y r =
    let s = p.stand in
    let at : Contains (chain m d p.x) a = subst (λ (l : List ℕ). Contains l a) (sym s.chain_is) (Contains-append_right s.before (a ∷ s.behind) a (contains-here a s.behind)) in
    ⊎_elim (λ (i : Contains (chain m d y) a).
    subst (λ z. chain m k z ≡ moved_slot a b (chain m d z)) (h.apart p.x y a p.region r at i) (put.0 ∙ sym (moved-middle a b s.before s.behind s.not_before s.not_behind) ∙ ap (moved_slot a b) (sym s.chain_is)))
    (λ (n : Contains (chain m d y) a → ⊥).
    put.1 y r (λ z. n (subst (λ w. Contains (chain m d w) a) (sym z) at)) ∙ gone y r ∙ without-none a (chain m d y) n ∙ sym (moved-none a b (chain m d y) n))
    (contains-or a (chain m d y))

pub put_between-requires-clause-neighbours : goal.put_between-requires-clause-neighbours
put_between-requires-clause-neighbours g c =
    let m : Areas = c.args.map in
    let d : Contents = contents m (g.W.Words.words c.args.words.now) in
    let e : Contents = contents m (g.W.Words.words c.drop_slot.new.words) in
    let same : g.W.Words.words c.get_set-former.new.words ≡ g.W.Words.words c.args.words.now = c.get_set-former.ensures.words ∙ c.get_set-next.ensures.words in
    let gone : (y : Space) → IsRegionOf m y → chain m e y ≡ without_slot c.args.old.0 (chain m d y) = subst (λ (ws : List ℕ). (y : Space) → IsRegionOf m y → chain m e y ≡ without_slot c.args.old.0 (chain m (contents m ws) y)) same c.drop_slot.ensures.dropped in
    let fe : c.get_set-former.result ≡ former_word d.sets c.args.old.0 = c.get_set-former.ensures.value ∙ ap (λ (ws : List ℕ). former_word (contents m ws).sets c.args.old.0) c.get_set-next.ensures.words in
    let p : Moving m d e c.args.old.0 c.get_set-former.result c.get_set-next.result = moving m d e c.args.old.0 c.get_set-former.result c.get_set-next.result c.requires.sets c.requires.filed gone c.get_set-next.ensures.value fe in
    (p.x, p.stand.before, p.stand.behind, p.region, p.left, p.former_is, p.next_is)

pub put_between-requires-clause-new : goal.put_between-requires-clause-new
put_between-requires-clause-new g c =
    let m : Areas = c.args.map in
    let d : Contents = contents m (g.W.Words.words c.args.words.now) in
    let e : Contents = contents m (g.W.Words.words c.drop_slot.new.words) in
    let same : g.W.Words.words c.get_set-former.new.words ≡ g.W.Words.words c.args.words.now = c.get_set-former.ensures.words ∙ c.get_set-next.ensures.words in
    let gone : (y : Space) → IsRegionOf m y → chain m e y ≡ without_slot c.args.old.0 (chain m d y) = subst (λ (ws : List ℕ). (y : Space) → IsRegionOf m y → chain m e y ≡ without_slot c.args.old.0 (chain m (contents m ws) y)) same c.drop_slot.ensures.dropped in
    still-none m d e c.args.old.0 c.args.new.0 c.if-new-old.false c.requires.new gone

pub returns-clause-moved : goal.returns-clause-moved
returns-clause-moved g c =
    let m : Areas = c.args.map in
    let d : Contents = contents m (g.W.Words.words c.args.words.now) in
    let e : Contents = contents m (g.W.Words.words c.drop_slot.new.words) in
    let k : Contents = contents m (g.W.Words.words c.put_between.new.words) in
    let a : ℕ = c.args.old.0 in
    let same : g.W.Words.words c.get_set-former.new.words ≡ g.W.Words.words c.args.words.now = c.get_set-former.ensures.words ∙ c.get_set-next.ensures.words in
    let gone : (y : Space) → IsRegionOf m y → chain m e y ≡ without_slot a (chain m d y) = subst (λ (ws : List ℕ). (y : Space) → IsRegionOf m y → chain m e y ≡ without_slot a (chain m (contents m ws) y)) same c.drop_slot.ensures.dropped in
    let fe : c.get_set-former.result ≡ former_word d.sets a = c.get_set-former.ensures.value ∙ ap (λ (ws : List ℕ). former_word (contents m ws).sets a) c.get_set-next.ensures.words in
    let p : Moving m d e a c.get_set-former.result c.get_set-next.result = moving m d e a c.get_set-former.result c.get_set-next.result c.requires.sets c.requires.filed gone c.get_set-next.ensures.value fe in
    moved m d e k a c.args.new.0 c.get_set-former.result c.get_set-next.result c.requires.sets p gone (c.put_between.ensures.put p.x p.stand.before p.stand.behind p.region p.left p.former_is p.next_is)
