use Rattle.std.proofs.Common.{◌≡◌, ℕ, ◌/◌, ◌<◌, ◌≤◌, ◌&&◌, true, not, eqb, ltb, sym, ap, ◌∙◌, arith}
use Rattle.std.specs.List.{filter}
use Rattle.std.proofs.Math.Logic.{⊎_elim}
use Rattle.std.proofs.lemmas.Bool.{and_left, and_right, cases_eq, eq-eqb, le-ltb, lt-ltb, ne_eqb}
use Rattle.std.proofs.lemmas.List.Elements.{filter_agree}
use Rattle.heap_words.specs.declared.map.Areas.{Areas}
use Rattle.heap_words.specs.Map.{page_words}
use Rattle.heap_words.specs.Contents.{Contents, contents}
use Rattle.yak_model.specs.Placed.{space_word}
use Rattle.remember_sets.specs.Filed.{chain, page_word}
use Rattle.remember_sets.proofs.Outside.{filter-all}
use Rattle.forwarding.proofs.dropping.drop_outside.Goals as goal

-- of the words only the one goes, and only where its page is of no region
goes : (f : ℕ → ℕ) (a b : ℕ) → f a < 2 → not (eqb b a) ≡ not (eqb b a && ltb (f b) 2)
goes f a b lt =
    ⊎_elim (λ (e : b ≡ a). ap not (eq-eqb b a e) ∙ sym (ap (λ p. not (p && ltb (f b) 2)) (eq-eqb b a e) ∙ ap not (lt-ltb (f b) 2 (omega (arith, lt, ap f e)))))
    (λ (ne : b ≡ a → ⊥). ap not (ne_eqb b a ne) ∙ sym (ap not (and_left (eqb b a) (ltb (f b) 2) (ne_eqb b a ne))))
    (cases_eq b a)

stays : (f : ℕ → ℕ) (a b : ℕ) → 2 ≤ f a → not (eqb b a && ltb (f b) 2) ≡ true
stays f a b le =
    ⊎_elim (λ (e : b ≡ a). ap not (and_right (eqb b a) (ltb (f b) 2) (le-ltb (f b) 2 (omega (arith, le, ap f e)))))
    (λ (ne : b ≡ a → ⊥). ap not (and_left (eqb b a) (ltb (f b) 2) (ne_eqb b a ne)))
    (cases_eq b a)

pub returns-then-get_page-lt2-clause-dropped : goal.returns-then-get_page-lt2-clause-dropped
returns-then-get_page-lt2-clause-dropped g c x q =
    let m : Areas = c.args.map in
    let was : Contents = contents m (g.W.Words.words c.args.words.now) in
    let same : contents m (g.W.Words.words c.get_page.new.words) ≡ was = ap (contents m) c.get_page.ensures.words in
    let page : c.page_words.result ≡ page_words m = c.page_words.ensures in
    let word : c.get_page.result ≡ page_word m was c.args.a = c.get_page.ensures.value ∙ ap (λ n. space_word was.table (c.args.a / n)) page in
    c.drop_slot.ensures.dropped x q ∙ ap (λ (k : Contents). filter (λ b. not (eqb b c.args.a)) (chain m k x)) same ∙ filter_agree (λ b. not (eqb b c.args.a)) (λ b. not (eqb b c.args.a && ltb (page_word m was b) 2)) (λ b. goes (page_word m was) c.args.a b (omega (arith, c.if-get_page-lt2.true, word))) (chain m was x)

pub returns-else-get_page-lt2-clause-dropped : goal.returns-else-get_page-lt2-clause-dropped
returns-else-get_page-lt2-clause-dropped g c x q =
    let m : Areas = c.args.map in
    let was : Contents = contents m (g.W.Words.words c.args.words.now) in
    let same : contents m (g.W.Words.words c.get_page.new.words) ≡ was = ap (contents m) c.get_page.ensures.words in
    let word : c.get_page.result ≡ page_word m was c.args.a = c.get_page.ensures.value ∙ ap (λ n. space_word was.table (c.args.a / n)) c.page_words.ensures in
    ap (λ (k : Contents). chain m k x) same ∙ sym (filter-all (λ b. not (eqb b c.args.a && ltb (page_word m was b) 2)) (chain m was x) (λ b. stays (page_word m was) c.args.a b (omega (arith, c.if-get_page-lt2.false, word))))
