use Rattle.std.proofs.Common.{◌≡◌, ℕ, ◌+◌, ◌≤◌, ◌&&◌, Bool, not, eqb, ltb, List, sym, ap, refl, ◌∙◌, arith}
use Rattle.std.specs.List.{filter}
use Rattle.std.proofs.lemmas.List.Elements.{filter_agree}
use Rattle.heap_words.specs.declared.map.Areas.{Areas}
use Rattle.heap_words.specs.Contents.{Contents, contents}
use Rattle.remember_sets.specs.Filed.{chain, page_word}
use Rattle.remember_sets.proofs.Folded.{with_sets-step}
use Rattle.remember_sets.proofs.Outside.{filter-all, filter-filter}
use Rattle.forwarding.proofs.Gaps.{beside, beside-more, beside-none}
use Rattle.forwarding.proofs.dropping.drop_gap.Goals as goal

pub loop-a-init : goal.loop-a-init
loop-a-init g c =
    let m : Areas = c.args.map in
    let was : Contents = contents m (g.W.Words.words c.args.words.now) in
    record {
      dropped = λ x q. sym (filter-all (beside (λ b. ltb (page_word m was b) 2) c.args.from c.args.from) (chain m was x) (beside-none (λ b. ltb (page_word m was b) 2) c.args.from));
      sets = c.requires.sets;
      others = refl;
      sound = c.requires.sound;
      base = refl;
    }

pub loop-a-preserved : goal.loop-a-preserved
loop-a-preserved g c =
    let m : Areas = c.args.map in
    let was : Contents = contents m (g.W.Words.words c.args.words.now) in
    let mid : Contents = contents m (g.W.Words.words c.loop-a.words) in
    let new : Contents = contents m (g.W.Words.words c.drop_outside.new.words) in
    let a : ℕ = c.loop-a.a in
    let inv = c.loop-a.invariant in
    let is : ℕ → Bool = λ b. ltb (page_word m was b) 2 in
    let table : mid.table ≡ was.table = ap (λ (y : Contents). y.table) inv.others in
    let mine : (b : ℕ) → not (eqb b a && ltb (page_word m mid b) 2) ≡ not (eqb b a && is b) = λ b. ap (λ (t : List (List ℕ)). let y : Contents = record was { table = t } in not (eqb b a && ltb (page_word m y b) 2)) table in
    let le : c.args.from ≤ a = omega arith in
    record {
      dropped = λ x q. c.drop_outside.ensures.dropped x q ∙ filter_agree _ (λ b. not (eqb b a && is b)) mine (chain m mid x) ∙ ap (filter (λ b. not (eqb b a && is b))) (inv.dropped x q) ∙ filter-filter (λ b. not (eqb b a && is b)) (beside is c.args.from a) (chain m was x) ∙ filter_agree _ (beside is c.args.from (a + 1)) (λ b. beside-more is c.args.from a b le) (chain m was x);
      sets = c.drop_outside.ensures.sets;
      others = with_sets-step was mid new inv.others c.drop_outside.ensures.others;
      sound = c.drop_outside.ensures.sound;
      base = c.drop_outside.ensures.base ∙ inv.base;
    }

pub returns-clause-dropped : goal.returns-clause-dropped
returns-clause-dropped g c x q =
    let m : Areas = c.args.map in
    let was : Contents = contents m (g.W.Words.words c.args.words.now) in
    let all : c.loop-a.a ≡ c.args.to = omega (arith, c.requires.order) in
    c.loop-a.invariant.dropped x q ∙ ap (λ n. filter (beside (λ b. ltb (page_word m was b) 2) c.args.from n) (chain m was x)) all
