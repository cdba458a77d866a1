use Rattle.std.proofs.Common.{◌≡◌, ℕ, List, sym, ap, subst, ◌∙◌}
use Rattle.heap_words.specs.Contents.{Contents, contents}
use Rattle.yak_model.specs.Chains.{AreChains, former_word, next_word}
use Rattle.yak_model.proofs.Chains.{chain-is, sets-stand}
use Rattle.remember_sets.specs.Filed.{chain, without_slot}
use Rattle.remember_sets.specs.Linking.{IsFormer, IsNext, with_former, with_links, with_next}
use Rattle.remember_sets.proofs.Slots.{without-none}
use Rattle.remember_sets.proofs.Steps.{Found, dropped, found, not-filed, whole-of}
use Rattle.remember_sets.proofs.chains.drop_slot.Given as given
use Rattle.remember_sets.proofs.chains.drop_slot.Goals as goal

pub set_next-requires-clause-former : goal.set_next-requires-clause-former
set_next-requires-clause-former g c =
    let d : Contents = contents c.args.map (g.W.Words.words c.args.words.now) in
    let ne : c.get_set-next.result ≡ next_word d.sets c.args.slot.0 = cc in
    let fe : c.get_set-former.result ≡ former_word d.sets c.args.slot.0 = c.get_set-former.ensures.value ∙ ap (λ (ws : List ℕ). former_word (contents c.args.map ws).sets c.args.slot.0) c.get_set-next.ensures.words in
    let f : Found c.args.map d c.args.slot.0 = found c.args.map d c.args.slot.0 c.requires.sets c.requires.within (λ z. c.if-next-ne0.true (ne ∙ z)) in
    subst (IsFormer c.args.map) (sym fe) f.stood.is_former

pub set_former-requires-clause-next : goal.set_former-requires-clause-next
set_former-requires-clause-next g c =
    let d : Contents = contents c.args.map (g.W.Words.words c.args.words.now) in
    let ne : c.get_set-next.result ≡ next_word d.sets c.args.slot.0 = cc in
    let f : Found c.args.map d c.args.slot.0 = found c.args.map d c.args.slot.0 c.requires.sets c.requires.within (λ z. c.if-next-ne0.true (ne ∙ z)) in
    subst (IsNext c.args.map) (sym ne) f.stood.is_next

chains : (g : given.Over) (c : goal.After-set_links g) → AreChains c.args.map (contents c.args.map (g.W.Words.words c.set_links.new.words)).firsts (contents c.args.map (g.W.Words.words c.set_links.new.words)).sets (λ y. without_slot c.args.slot.0 (chain c.args.map (contents c.args.map (g.W.Words.words c.args.words.now)) y))
chains g c =
    let m = c.args.map in
    let a : ℕ = c.args.slot.0 in
    let ws : List ℕ = g.W.Words.words c.args.words.now in
    let d : Contents = contents m ws in
    let n : ℕ = c.get_set-next.result in
    let o : ℕ = c.get_set-former.result in
    let ne : n ≡ next_word d.sets a = cc in
    let fe : o ≡ former_word d.sets a = c.get_set-former.ensures.value ∙ ap (λ (ws : List ℕ). former_word (contents m ws).sets a) c.get_set-next.ensures.words in
    let f : Found m d a = found m d a c.requires.sets c.requires.within (λ z. c.if-next-ne0.true (ne ∙ z)) in
    let e1 : contents m (g.W.Words.words c.set_next.new.words) ≡ with_next d o n = c.set_next.ensures.set ∙ ap (λ (ws : List ℕ). with_next (contents m ws) o n) (c.get_set-former.ensures.words ∙ c.get_set-next.ensures.words) in
    let e2 : contents m (g.W.Words.words c.set_former.new.words) ≡ with_former (with_next d o n) n o = c.set_former.ensures.set ∙ ap (λ (y : Contents). with_former y n o) e1 in
    let e3 : contents m (g.W.Words.words c.set_links.new.words) ≡ with_links (with_former (with_next d o n) n o) a 0 0 = c.set_links.ensures.set ∙ ap (λ (y : Contents). with_links y a 0 0) e2 in
    dropped m d (contents m (g.W.Words.words c.set_links.new.words)) a n o (whole-of m ws c.requires.sound) c.requires.sets c.requires.within ne fe f e3

pub returns-then-next-ne0-clause-dropped : goal.returns-then-next-ne0-clause-dropped
returns-then-next-ne0-clause-dropped g c x q =
    let d : Contents = contents c.args.map (g.W.Words.words c.set_links.new.words) in
    chain-is c.args.map d.firsts d.sets (λ y. without_slot c.args.slot.0 (chain c.args.map (contents c.args.map (g.W.Words.words c.args.words.now)) y)) (chains g c) x q

pub returns-then-next-ne0-clause-sets : goal.returns-then-next-ne0-clause-sets
returns-then-next-ne0-clause-sets g c =
    let d : Contents = contents c.args.map (g.W.Words.words c.set_links.new.words) in
    sets-stand c.args.map d.firsts d.sets (λ y. without_slot c.args.slot.0 (chain c.args.map (contents c.args.map (g.W.Words.words c.args.words.now)) y)) (chains g c)

pub returns-else-next-ne0-clause-dropped : goal.returns-else-next-ne0-clause-dropped
returns-else-next-ne0-clause-dropped g c x q =
    let m = c.args.map in
    let a : ℕ = c.args.slot.0 in
    let ws : List ℕ = g.W.Words.words c.args.words.now in
    let d : Contents = contents m ws in
    let ne : c.get_set-next.result ≡ next_word d.sets a = cc in
    let zero : next_word d.sets a ≡ 0 = sym ne ∙ c.if-next-ne0.false in
    ap (λ (ws : List ℕ). chain m (contents m ws) x) (c.get_set-former.ensures.words ∙ c.get_set-next.ensures.words) ∙ sym (without-none a (chain m d x) (not-filed m d a c.requires.sets zero x q))
