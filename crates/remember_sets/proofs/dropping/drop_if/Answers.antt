use Rattle.std.proofs.Common.{◌≡◌, ℕ, ◌/◌, ◌&&◌, true, false, not, eqb, arith, ap, sym, ◌∙◌}
use Rattle.std.specs.List.{filter}
use Rattle.std.proofs.Math.Logic.{⊎_elim}
use Rattle.std.proofs.lemmas.Bool.{and_left, and_right, cases_eq, cond-true, eq-eqb, ne_eqb}
use Rattle.std.proofs.lemmas.List.Elements.{filter_agree}
use Rattle.heap_words.specs.declared.map.Areas.{Areas}
use Rattle.heap_words.specs.Map.{page_words}
use Rattle.heap_words.specs.Contents.{Contents, contents}
use Rattle.yak_model.specs.Placed.{space_word}
use Rattle.remember_sets.specs.Filed.{chain, page_word}
use Rattle.remember_sets.proofs.Outside.{filter-all}
use Rattle.remember_sets.proofs.dropping.drop_if.Goals as goal

-- in a page with the word all slots go, and in another page none
here : (table : ℕ → ℕ) (w page word a : ℕ) → table page ≡ word → not (eqb (a / w) page) ≡ not (eqb (a / w) page && eqb (table (a / w)) word)
here table w page word a e =
    ⊎_elim (λ (same : a / w ≡ page). ap not (eq-eqb (a / w) page same) ∙ sym (ap (λ b. not (b && eqb (table (a / w)) word)) (eq-eqb (a / w) page same) ∙ ap not (eq-eqb (table (a / w)) word (ap table same ∙ e))))
    (λ (ne : a / w ≡ page → ⊥). ap not (ne_eqb (a / w) page ne) ∙ sym (ap not (and_left (eqb (a / w) page) (eqb (table (a / w)) word) (ne_eqb (a / w) page ne))))
    (cases_eq (a / w) page)

elsewhere : (table : ℕ → ℕ) (w page word a : ℕ) → (table page ≡ word → ⊥) → not (eqb (a / w) page && eqb (table (a / w)) word) ≡ true
elsewhere table w page word a n =
    ⊎_elim (λ (same : a / w ≡ page). ap not (and_right (eqb (a / w) page) (eqb (table (a / w)) word) (ne_eqb (table (a / w)) word (λ e. n (ap table (sym same) ∙ e)))))
    (λ (ne : a / w ≡ page → ⊥). ap not (and_left (eqb (a / w) page) (eqb (table (a / w)) word) (ne_eqb (a / w) page ne)))
    (cases_eq (a / w) page)

pub returns-then-get_page-word-clause-dropped : goal.returns-then-get_page-word-clause-dropped
returns-then-get_page-word-clause-dropped g c x q =
    let m : Areas = c.args.map in
    let was : Contents = contents m (g.W.Words.words c.args.words.now) in
    let w : ℕ = page_words m in
    let same : contents m (g.W.Words.words c.get_page.new.words) ≡ was = ap (contents m) c.get_page.ensures.words in
    let word : space_word was.table c.args.page ≡ c.args.word = sym c.get_page.ensures.value ∙ c.if-get_page-word.true in
    c.drop_page.ensures.dropped x q ∙ ap (λ (k : Contents). filter (λ a. not (eqb (a / w) c.args.page)) (chain m k x)) same ∙ filter_agree (λ a. not (eqb (a / w) c.args.page)) (λ a. not (eqb (a / w) c.args.page && eqb (page_word m was a) c.args.word)) (λ a. here (space_word was.table) w c.args.page c.args.word a word) (chain m was x)

pub returns-else-get_page-word-clause-dropped : goal.returns-else-get_page-word-clause-dropped
returns-else-get_page-word-clause-dropped g c x q =
    let m : Areas = c.args.map in
    let was : Contents = contents m (g.W.Words.words c.args.words.now) in
    let w : ℕ = page_words m in
    let same : contents m (g.W.Words.words c.get_page.new.words) ≡ was = ap (contents m) c.get_page.ensures.words in
    ap (λ (k : Contents). chain m k x) same ∙ sym (filter-all (λ a. not (eqb (a / w) c.args.page && eqb (page_word m was a) c.args.word)) (chain m was x) (λ a. elsewhere (space_word was.table) w c.args.page c.args.word a (λ e. c.if-get_page-word.false (c.get_page.ensures.value ∙ e))))

pub returns-then-get_page-word-clause-reads : goal.returns-then-get_page-word-clause-reads
returns-then-get_page-word-clause-reads g c =
    let m : Areas = c.args.map in
    let was : Contents = contents m (g.W.Words.words c.args.words.now) in
    let word : space_word was.table c.args.page ≡ c.args.word = sym c.get_page.ensures.value ∙ c.if-get_page-word.true in
    let one = cond-true {A = ℕ} (eqb (space_word was.table c.args.page) c.args.word) 1 0 (eq-eqb (space_word was.table c.args.page) c.args.word word) in
    omega (arith, one, c.drop_page.ensures.reads, c.get_page.ensures.reads)
