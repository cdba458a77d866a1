use Rattle.std.proofs.Common.{◌≡◌, ◌≢◌, ℕ, ◌+◌, ◌*◌, ◌/◌, ◌≤◌, ◌<◌, ◌&&◌, Bool, true, false, not, cond, eqb, List, [], count_by, take, length, get_or, arith, ap, sym, refl, subst, ◌∙◌}
use Rattle.std.specs.List.{filter}
use Rattle.std.proofs.Math.Logic.{⊎_elim}
use Rattle.std.proofs.lemmas.Bool.{cases_Bool, cond-false, cond-true, ne_eqb}
use Rattle.std.proofs.lemmas.List.Elements.{filter_agree}
use Rattle.std.proofs.lemmas.List.Sums.{count_by_more_no, count_by_more_yes, sum_by-take-le}
use Rattle.std.proofs.Math.Nat.{div-lt_iff_lt-mul, mul-le-mul_left}
use Rattle.heap_words.specs.declared.map.Areas.{Areas}
use Rattle.heap_words.specs.Map.{IsAreas, heap_length, page_words}
use Rattle.heap_words.specs.Contents.{Contents, contents}
use Rattle.heap_words.proofs.Contents.{length-table}
use Rattle.epoch_lattice.specs.Lattice.{space_index}
use Rattle.yak_model.specs.Placed.{space_word}
use Rattle.remember_sets.specs.Filed.{chain, page_word}
use Rattle.remember_sets.proofs.Folded.{with_sets-step}
use Rattle.remember_sets.proofs.Outside.{filter-all, filter-alike, filter-filter, past, past-known, past-more, past-none}
use Rattle.remember_sets.proofs.dropping.drop_slots_below.Goals as goal

pub loop-page-init : goal.loop-page-init
loop-page-init g c =
    let was : Contents = contents c.args.map (g.W.Words.words c.args.words.now) in
    record {
      sound = c.requires.sound;
      base = refl;
      sets = c.requires.sets;
      others = refl;
      dropped = λ x q. sym (filter-all _ (chain c.args.map was x) (past-none _ (page_words c.args.map)));
      reads = omega arith;
    }

pub drop_if-requires-clause-sound : goal.drop_if-requires-clause-sound
drop_if-requires-clause-sound g c = c.loop-page.invariant.sound

pub drop_if-requires-clause-sets : goal.drop_if-requires-clause-sets
drop_if-requires-clause-sets g c = c.loop-page.invariant.sets

counts : (f : List ℕ → Bool) (t : List (List ℕ)) (i : ℕ) → i < length t → count_by f (take (i + 1) t) ≡ count_by f (take i t) + cond (f (get_or t i [])) 1 0
counts f t i lt =
    ⊎_elim (λ (y : f (get_or t i []) ≡ true). count_by_more_yes f t i [] lt y ∙ ap (λ n. count_by f (take i t) + n) (sym (cond-true {A = ℕ} (f (get_or t i [])) 1 0 y)))
    (λ (n : f (get_or t i []) ≡ false). count_by_more_no f t i [] lt n ∙ omega (arith, cond-false {A = ℕ} (f (get_or t i [])) 1 0 n))
    (cases_Bool (f (get_or t i [])))

pub loop-page-preserved : goal.loop-page-preserved
loop-page-preserved g c =
    let m : Areas = c.args.map in
    let ws : List ℕ = g.W.Words.words c.args.words.now in
    let was : Contents = contents m ws in
    let mid : Contents = contents m (g.W.Words.words c.loop-page.words) in
    let new : Contents = contents m (g.W.Words.words c.drop_if.new.words) in
    let w : ℕ = page_words m in
    let p : ℕ = c.loop-page.page in
    let inv = c.loop-page.invariant in
    let step = c.drop_if.ensures in
    let word : ℕ = c.from-word.result + 1 in
    let table : mid.table ≡ was.table = ap (λ (y : Contents). y.table) inv.others in
    let is : ℕ → Bool = λ a. eqb (page_word m was a) word in
    let lt : p < length was.table = omega (arith, length-table m ws) in
    let more = counts (λ (r : List ℕ). eqb (get_or r 0 0) word) was.table p lt in
    let mine : (a : ℕ) → not (eqb (a / w) p && eqb (page_word m mid a) word) ≡ not (eqb (a / w) p && is a) = λ a. ap (λ (t : List (List ℕ)). not (eqb (a / w) p && eqb (space_word t (a / w)) word)) table in
    let here = ap (λ (t : List (List ℕ)). cond {A = ℕ} (eqb (space_word t p) word) 1 0) table in
    record {
      sound = step.sound;
      base = step.base ∙ inv.base;
      sets = step.sets;
      others = with_sets-step was mid new inv.others step.others;
      dropped = λ x q. step.dropped x q ∙ filter_agree _ (λ a. not (eqb (a / w) p && is a)) mine (chain m mid x) ∙ ap (filter (λ a. not (eqb (a / w) p && is a))) (inv.dropped x q) ∙ filter-filter (λ a. not (eqb (a / w) p && is a)) (past is w p) (chain m was x) ∙ filter_agree _ (past is w (p + 1)) (past-more is w p) (chain m was x);
      reads = omega (arith, step.reads, inv.reads, more, here);
    }

pub returns-clause-dropped : goal.returns-clause-dropped
returns-clause-dropped g c x q =
    let m : Areas = c.args.map in
    let was : Contents = contents m (g.W.Words.words c.args.words.now) in
    let w : ℕ = page_words m in
    let end : ℕ = c.args.end in
    let word : ℕ = c.from-word.result + 1 in
    let is : ℕ → Bool = λ a. eqb (page_word m was a) word in
    let l : List ℕ = chain m was x in
    let areas : IsAreas m = c.requires.sound.areas in
    let all : c.loop-page.page ≡ end = omega arith in
    let index : c.from-word.result ≡ space_index c.args.space = c.from-word.ensures ∙ c.index_of.ensures.index in
    let none : (p : ℕ) → end ≤ p → p < m.pages → space_word was.table p ≢ word = λ p from lt. subst (λ n. space_word was.table p ≢ n + 1) (sym index) (c.requires.none_from p from lt) in
    c.loop-page.invariant.dropped x q ∙ ap (λ n. filter (past is w n) l) all ∙ filter-alike (past is w end) (λ a. not (is a)) (λ a. a < heap_length m) (λ a lt. past-known is w end a (λ from. ne_eqb (page_word m was a) word (none (a / w) from ((div-lt_iff_lt-mul (omega arith)).1 (omega (arith, lt)))))) l (c.requires.sets.within x q) ∙ ap (λ n. filter (λ a. not (eqb (page_word m was a) (n + 1))) l) index

pub returns-clause-reads : goal.returns-clause-reads
returns-clause-reads g c =
    let m : Areas = c.args.map in
    let ws : List ℕ = g.W.Words.words c.args.words.now in
    let was : Contents = contents m ws in
    let all : c.loop-page.page ≡ c.args.end = omega arith in
    let index : c.from-word.result ≡ space_index c.args.space = c.from-word.ensures ∙ c.index_of.ensures.index in
    let is : List ℕ → Bool = λ (r : List ℕ). eqb (get_or r 0 0) (c.from-word.result + 1) in
    let few = sum_by-take-le (λ (r : List ℕ). cond {A = ℕ} (is r) 1 0) was.table c.loop-page.page in
    let named = ap (λ n. count_by (λ (r : List ℕ). eqb (get_or r 0 0) (n + 1)) was.table) index in
    let some : page_words m * count_by is (take c.loop-page.page was.table) ≤ page_words m * count_by is was.table = mul-le-mul_left (page_words m) few in
    omega (arith, c.loop-page.invariant.reads, all, some, named)
