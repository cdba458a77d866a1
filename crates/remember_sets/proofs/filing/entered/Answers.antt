use Rattle.std.proofs.Common.{◌≡◌, ◌≢◌, ℕ, ◌+◌, ◌-◌, ◌*◌, ◌/◌, ◌<◌, ◌≤◌, List, Option, Some, None, true, false, get_or, arith, sym, ap, subst, ◌∙◌}
use Rattle.std.specs.Option.{MatchOption}
use Rattle.heap_words.specs.declared.map.Areas.{Areas}
use Rattle.heap_words.specs.Map.{IsAreas, heap_length, max_depth, page_words}
use Rattle.heap_words.specs.Contents.{Contents, contents}
use Rattle.epoch_lattice.specs.declared.Space.{Space}
use Rattle.epoch_lattice.specs.declared.Space.TheVariants.{Control, Region}
use Rattle.epoch_lattice.specs.declared.TheConstants.{MAX_DEPTH, MAX_THREADS}
use Rattle.epoch_lattice.specs.Lattice.{IsValid, space_index}
use Rattle.yak_model.specs.Chains.{IsRegionOf}
use Rattle.yak_model.proofs.Chains.{region-index}
use Rattle.remember_sets.specs.Filed.{PagesKnown, enters, page_word}
use Rattle.remember_sets.proofs.Entering.{Enter, enters-none, enters-since}
use Rattle.remember_sets.proofs.filing.entered.Goals as goal

pub returns-in_err-goal-clause-entered : goal.returns-in_err-goal-clause-entered
returns-in_err-goal-clause-entered g c =
    let m : Areas = c.args.map in
    let d : Contents = contents m (g.W.Words.words c.args.words.now) in
    let none : (x : Space) → IsRegionOf m x → enters m d x c.args.slot ≡ false =
    λ x q. enters-none m d x c.args.slot (λ (h : Enter m d x c.args.slot).
    let lt : h.goal < heap_length m = c.requires.slot.1 h.goal h.refers in
    let areas : IsAreas m = c.requires.sound.areas in
    c.in_err-goal.ensures h.goal (omega arith) (c.get_heap.ensures.value ∙ h.refers)) in
    rw c.from_residual.ensures none

pub page_word-space-requires-clause-within : goal.page_word-space-requires-clause-within
page_word-space-requires-clause-within g c = c.requires.slot.1 c.in_ok-goal.goal (sym c.get_heap.ensures.value ∙ c.in_ok-goal.ensures)

-- the page of a word of the heap
page-below : (m : Areas) (a : ℕ) → a < heap_length m → a / page_words m < m.pages
page-below m a lt = omega (arith, lt)

word-fits : (m : Areas) (d : Contents) (a : ℕ) → IsAreas m → PagesKnown m d → a < heap_length m → page_word m d a ≤ MAX_THREADS * MAX_DEPTH + 1
word-fits m d a areas known lt = omega (arith, known (a / page_words m) (page-below m a lt))

-- the region of a number within the heap's
region-of : (m : Areas) (t u n : ℕ) → n ≤ max_depth m * m.threads + 1 → IsValid MAX_DEPTH (Region t u) → n ≡ space_index (Region t u) + 1 → IsRegionOf m (Region t u)
region-of m t u n le v e = (v.0, omega (arith, v.2, v.3, le, e), v.2, v.3)

pub overflow_cast-space : goal.overflow_cast-space
overflow_cast-space g c =
    let m : Areas = c.args.map in
    let d : Contents = contents m (g.W.Words.words c.args.words.now) in
    let same : contents m (g.W.Words.words c.get_heap.new.words) ≡ d = ap (contents m) c.get_heap.ensures.words in
    let e : c.page_word-space.result ≡ page_word m d c.in_ok-goal.goal = c.page_word-space.ensures.word ∙ ap (λ (k : Contents). page_word m k c.in_ok-goal.goal) same in
    omega (arith, e, word-fits m d c.in_ok-goal.goal c.requires.sound.areas c.requires.pages (c.requires.slot.1 c.in_ok-goal.goal (sym c.get_heap.ensures.value ∙ c.in_ok-goal.ensures)))

-- the space with the number of a page is a region that the reference enters
told : (m : Areas) (d : Contents) (a b : ℕ) (o : Option Space) → IsAreas m → PagesKnown m d → b < heap_length m → get_or d.heap a 0 ≡ 2 * (b + 1) → 2 ≤ page_word m d b → page_word m d b ≢ page_word m d a → MatchOption o (MAX_THREADS * MAX_DEPTH < page_word m d b - 1) (λ y. IsValid MAX_DEPTH y × (space_index y ≡ page_word m d b - 1)) → MatchOption o ((x : Space) → IsRegionOf m x → enters m d x a ≡ false) (λ y. IsRegionOf m y × (enters m d y a ≡ true))
told m d a b None areas known lt e some ne h = absurd (omega (arith, h, word-fits m d b areas known lt))
told m d a b (Some Control) areas known lt e some ne h = absurd (omega (arith, h.1, some))
told m d a b (Some (Region t u)) areas known lt e some ne h =
    let into : page_word m d b ≡ space_index (Region t u) + 1 = omega (arith, h.1, some) in
    let region : IsRegionOf m (Region t u) = region-of m t u (page_word m d b) (known (b / page_words m) (page-below m b lt)) h.0 into in
    (region, enters-since m d (Region t u) a (record { goal = b; refers = e; into = into; from = λ z. ne (into ∙ sym z) }))

pub returns-clause-entered : goal.returns-clause-entered
returns-clause-entered g c =
    let m : Areas = c.args.map in
    let ws : List ℕ = g.W.Words.words c.args.words.now in
    let d : Contents = contents m ws in
    let b : ℕ = c.in_ok-goal.goal in
    let same : contents m (g.W.Words.words c.get_heap.new.words) ≡ d = ap (contents m) c.get_heap.ensures.words in
    let after : contents m (g.W.Words.words c.page_word-space.new.words) ≡ d = ap (contents m) (c.page_word-space.ensures.words ∙ c.get_heap.ensures.words) in
    let into : c.page_word-space.result ≡ page_word m d b = c.page_word-space.ensures.word ∙ ap (λ (k : Contents). page_word m k b) same in
    let from : c.page_word.result ≡ page_word m d c.args.slot = c.page_word.ensures.word ∙ ap (λ (k : Contents). page_word m k c.args.slot) after in
    let refers : get_or d.heap c.args.slot 0 ≡ 2 * (b + 1) = sym c.get_heap.ensures.value ∙ c.in_ok-goal.ensures in
    told m d c.args.slot b c.space_at.result c.requires.sound.areas c.requires.pages (c.requires.slot.1 b refers) refers (omega (arith, c.if-space-lt2.false, into)) (λ z. c.if-space-page_word.false (into ∙ z ∙ sym from)) (subst (λ n. MatchOption c.space_at.result (MAX_THREADS * MAX_DEPTH < n - 1) (λ y. IsValid MAX_DEPTH y × (space_index y ≡ n - 1))) into c.space_at.ensures.exact)

-- a reference that leads to a page enters no other region's, and a page of Control or a free one is no region's
none-below : (m : Areas) (d : Contents) (a b : ℕ) → IsAreas m → get_or d.heap a 0 ≡ 2 * (b + 1) → page_word m d b < 2 → (x : Space) → IsRegionOf m x → enters m d x a ≡ false
none-below m d a b areas e lt x q =
    enters-none m d x a (λ (h : Enter m d x a).
    let same : h.goal ≡ b = omega (arith, h.refers, e) in
    omega (arith, (region-index m x areas q).0, h.into, ap (page_word m d) same, lt))

none-own : (m : Areas) (d : Contents) (a b : ℕ) → get_or d.heap a 0 ≡ 2 * (b + 1) → page_word m d b ≡ page_word m d a → (x : Space) → enters m d x a ≡ false
none-own m d a b e own x =
    enters-none m d x a (λ (h : Enter m d x a).
    let same : h.goal ≡ b = omega (arith, h.refers, e) in
    h.from (sym own ∙ ap (page_word m d) (sym same) ∙ h.into))

pub returns-then-space-lt2-clause-entered : goal.returns-then-space-lt2-clause-entered
returns-then-space-lt2-clause-entered g c =
    let m : Areas = c.args.map in
    let d : Contents = contents m (g.W.Words.words c.args.words.now) in
    let b : ℕ = c.in_ok-goal.goal in
    let same : contents m (g.W.Words.words c.get_heap.new.words) ≡ d = ap (contents m) c.get_heap.ensures.words in
    let into : c.page_word-space.result ≡ page_word m d b = c.page_word-space.ensures.word ∙ ap (λ (k : Contents). page_word m k b) same in
    let refers : get_or d.heap c.args.slot 0 ≡ 2 * (b + 1) = sym c.get_heap.ensures.value ∙ c.in_ok-goal.ensures in
    none-below m d c.args.slot b c.requires.sound.areas refers (omega (arith, c.if-space-lt2.true, into))

pub returns-then-space-page_word-clause-entered : goal.returns-then-space-page_word-clause-entered
returns-then-space-page_word-clause-entered g c =
    let m : Areas = c.args.map in
    let d : Contents = contents m (g.W.Words.words c.args.words.now) in
    let b : ℕ = c.in_ok-goal.goal in
    let same : contents m (g.W.Words.words c.get_heap.new.words) ≡ d = ap (contents m) c.get_heap.ensures.words in
    let after : contents m (g.W.Words.words c.page_word-space.new.words) ≡ d = ap (contents m) (c.page_word-space.ensures.words ∙ c.get_heap.ensures.words) in
    let into : c.page_word-space.result ≡ page_word m d b = c.page_word-space.ensures.word ∙ ap (λ (k : Contents). page_word m k b) same in
    let from : c.page_word.result ≡ page_word m d c.args.slot = c.page_word.ensures.word ∙ ap (λ (k : Contents). page_word m k c.args.slot) after in
    let refers : get_or d.heap c.args.slot 0 ≡ 2 * (b + 1) = sym c.get_heap.ensures.value ∙ c.in_ok-goal.ensures in
    λ x q. none-own m d c.args.slot b refers (sym into ∙ c.if-space-page_word.true ∙ from) x
