use Rattle.std.proofs.Common.{◌≡◌, ◌+◌, ℕ, List, ◌++◌, sym, subst, ◌∙◌}
use Rattle.heap_words.specs.Contents.{Contents, contents}
use Rattle.epoch_lattice.specs.declared.Space.{Space}
use Rattle.epoch_lattice.specs.Lattice.{space_index}
use Rattle.yak_model.specs.Chains.{AreChains, IsRegionOf, former_from, next_to}
use Rattle.yak_model.proofs.Chains.{chain-is, sets-stand}
use Rattle.remember_sets.specs.Filed.{chain}
use Rattle.remember_sets.specs.Linking.{IsFormer, IsNext, former_to, with_former, with_links, with_next}
use Rattle.remember_sets.proofs.Linked.{fits-neighbours}
use Rattle.remember_sets.proofs.Steps.{put, put-elsewhere, put-here, put_chains, whole-of}
use Rattle.remember_sets.proofs.chains.put_between.Given as given
use Rattle.remember_sets.proofs.chains.put_between.Goals as goal

pub set_next-requires-clause-former : goal.set_next-requires-clause-former
set_next-requires-clause-former g c =
    let m = c.args.map in
    let d : Contents = contents m (g.W.Words.words c.args.words.now) in
    let n = c.requires.neighbours in
    subst (IsFormer m) (sym n.5) (fits-neighbours m d (chain m d) n.0 n.1 n.2 c.requires.sets n.3 n.4).0

pub set_former-requires-clause-next : goal.set_former-requires-clause-next
set_former-requires-clause-next g c =
    let m = c.args.map in
    let d : Contents = contents m (g.W.Words.words c.args.words.now) in
    let n = c.requires.neighbours in
    subst (IsNext m) (sym n.6) (fits-neighbours m d (chain m d) n.0 n.1 n.2 c.requires.sets n.3 n.4).1

chains : (g : given.Over) (c : goal.After-set_links g) → (x : Space) (l1 l2 : List ℕ) → IsRegionOf c.args.map x → chain c.args.map (contents c.args.map (g.W.Words.words c.args.words.now)) x ≡ l1 ++ l2 → c.args.former ≡ former_to (space_index x) l1 → c.args.next ≡ next_to l2 → AreChains c.args.map (contents c.args.map (g.W.Words.words c.set_links.new.words)).firsts (contents c.args.map (g.W.Words.words c.set_links.new.words)).sets (put_chains (chain c.args.map (contents c.args.map (g.W.Words.words c.args.words.now))) x l1 l2 c.args.slot.0)
chains g c x l1 l2 q was fe ne =
    let m = c.args.map in
    let a : ℕ = c.args.slot.0 in
    let n : ℕ = c.args.next in
    let o : ℕ = c.args.former in
    let ws : List ℕ = g.W.Words.words c.args.words.now in
    let d : Contents = contents m ws in
    let e1 : contents m (g.W.Words.words c.set_next.new.words) ≡ with_next d o (a + 2) = cc in
    let e2 : contents m (g.W.Words.words c.set_former.new.words) ≡ with_former (with_next d o (a + 2)) n (a + former_from) = cc in
    let e3 : contents m (g.W.Words.words c.set_links.new.words) ≡ with_links (with_former (with_next d o (a + 2)) n (a + former_from)) a n o = cc in
    put m d (contents m (g.W.Words.words c.set_links.new.words)) x l1 l2 a o n (whole-of m ws c.requires.sound) c.requires.sets q was c.requires.within c.requires.new fe ne e3

pub returns-clause-put : goal.returns-clause-put
returns-clause-put g c x l1 l2 q was fe ne =
    let m = c.args.map in
    let a : ℕ = c.args.slot.0 in
    let d : Contents = contents m (g.W.Words.words c.set_links.new.words) in
    let ch : Space → List ℕ = chain m (contents m (g.W.Words.words c.args.words.now)) in
    let all = chain-is m d.firsts d.sets (put_chains ch x l1 l2 a) (chains g c x l1 l2 q was fe ne) in (
      all x q ∙ put-here ch x l1 l2 a,
      λ y r apart. all y r ∙ put-elsewhere m ch x y l1 l2 a c.requires.sound.areas q r apart,
    )

pub returns-clause-sets : goal.returns-clause-sets
returns-clause-sets g c =
    let m = c.args.map in
    let n = c.requires.neighbours in
    let d : Contents = contents m (g.W.Words.words c.set_links.new.words) in
    sets-stand m d.firsts d.sets (put_chains (chain m (contents m (g.W.Words.words c.args.words.now))) n.0 n.1 n.2 c.args.slot.0) (chains g c n.0 n.1 n.2 n.3 n.4 n.5 n.6)
