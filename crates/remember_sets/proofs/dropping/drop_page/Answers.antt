use Rattle.std.proofs.Common.{◌≡◌, ℕ, ◌+◌, ◌*◌, ◌/◌, not, eqb, List, arith, ap, sym, refl, ◌∙◌}
use Rattle.std.specs.List.{filter}
use Rattle.std.proofs.lemmas.List.Elements.{filter_agree}
use Rattle.heap_words.specs.declared.map.Areas.{Areas}
use Rattle.heap_words.specs.Map.{page_words}
use Rattle.heap_words.specs.Contents.{Contents, contents}
use Rattle.remember_sets.specs.Filed.{chain, without_slot}
use Rattle.remember_sets.proofs.Folded.{with_sets-step}
use Rattle.remember_sets.proofs.Outside.{beyond, beyond-more, beyond-none, beyond-page, filter-all, filter-filter}
use Rattle.remember_sets.proofs.dropping.drop_page.Goals as goal

pub loop-k-init : goal.loop-k-init
loop-k-init g c = record {
  sound = c.requires.sound;
  base = refl;
  sets = c.requires.sets;
  others = refl;
  dropped = λ x q. sym (filter-all (beyond (page_words c.args.map * c.args.page) 0) (chain c.args.map (contents c.args.map (g.W.Words.words c.args.words.now)) x) (beyond-none (page_words c.args.map * c.args.page)));
  reads = omega arith;
}

pub drop_slot-requires-clause-sound : goal.drop_slot-requires-clause-sound
drop_slot-requires-clause-sound g c = c.loop-k.invariant.sound

pub drop_slot-requires-clause-sets : goal.drop_slot-requires-clause-sets
drop_slot-requires-clause-sets g c = c.loop-k.invariant.sets

pub loop-k-preserved : goal.loop-k-preserved
loop-k-preserved g c =
    let m : Areas = c.args.map in
    let was : Contents = contents m (g.W.Words.words c.args.words.now) in
    let mid : Contents = contents m (g.W.Words.words c.loop-k.words) in
    let new : Contents = contents m (g.W.Words.words c.drop_slot.new.words) in
    let start : ℕ = page_words m * c.args.page in
    let k : ℕ = c.loop-k.k in
    let inv = c.loop-k.invariant in
    let step = c.drop_slot.ensures in
    record {
      sound = step.sound;
      base = step.base ∙ inv.base;
      sets = step.sets;
      others = with_sets-step was mid new inv.others step.others;
      dropped = λ x q. step.dropped x q ∙ ap (λ n. without_slot (n * c.args.page + k) (chain m mid x)) c.page_words.ensures ∙ ap (without_slot (start + k)) (inv.dropped x q) ∙ filter-filter (λ b. not (eqb b (start + k))) (beyond start k) (chain m was x) ∙ filter_agree _ (beyond start (k + 1)) (beyond-more start k) (chain m was x);
      reads = omega (arith, step.reads, inv.reads);
    }

pub returns-clause-dropped : goal.returns-clause-dropped
returns-clause-dropped g c x q =
    let m : Areas = c.args.map in
    let w : ℕ = page_words m in
    let l : List ℕ = chain m (contents m (g.W.Words.words c.args.words.now)) x in
    let all : c.loop-k.k ≡ w = omega (arith, c.page_words-k-end.ensures) in
    c.loop-k.invariant.dropped x q ∙ ap (λ n. filter (beyond (w * c.args.page) n) l) all ∙ filter_agree (beyond (w * c.args.page) w) (λ a. not (eqb (a / w) c.args.page)) (λ a. beyond-page w c.args.page a (omega arith)) l

pub returns-clause-reads : goal.returns-clause-reads
returns-clause-reads g c = omega (arith, c.loop-k.invariant.reads, c.page_words-k-end.ensures, c.loop-k.auto.k-end)
