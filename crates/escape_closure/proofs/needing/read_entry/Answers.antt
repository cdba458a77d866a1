use Rattle.std.proofs.Props.{props}
use Rattle.std.proofs.Math.Logic.{∥∥₁_elim}
use Rattle.std.proofs.Common.{◌≡◌, ◌+◌, ◌*◌, ℕ, List, arith, ap, ◌∙◌, get_or}
use Rattle.heap_words.specs.Contents.{contents}
use Rattle.escape_closure.proofs.Placing.{index_low, index_told, object_fits, size_told}
use Rattle.escape_closure.proofs.needing.read_entry.Goals as goal

pub overflow_mul-k : goal.overflow_mul-k
overflow_mul-k g c =
    ∥∥₁_elim c.requires.some (hlevel props) (λ z. let e = z.3 in let areas = c.requires.sound.areas in omega (arith, e.room, areas))

pub get_scratch-old-requires-clause-within : goal.get_scratch-old-requires-clause-within
get_scratch-old-requires-clause-within g c =
    ∥∥₁_elim c.requires.some (hlevel props) (λ z. let e = z.3 in let areas = c.requires.sound.areas in omega (arith, e.room))

pub get_heap-requires-clause-within : goal.get_heap-requires-clause-within
get_heap-requires-clause-within g c =
    ∥∥₁_elim c.requires.some (hlevel props) (λ z. let e = z.3 in let areas = c.requires.sound.areas in let b = object_fits c.args.map z.0 _ z.2 c.args.k z.1 e in omega (arith, b, c.get_scratch-old.ensures.value, areas))

pub overflow_add-old : goal.overflow_add-old
overflow_add-old g c =
    ∥∥₁_elim c.requires.some (hlevel props) (λ z. let e = z.3 in let areas = c.requires.sound.areas in let b = object_fits c.args.map z.0 _ z.2 c.args.k z.1 e in omega (arith, b, c.get_scratch-old.ensures.value, areas))

pub get_heap-work-requires-clause-within : goal.get_heap-work-requires-clause-within
get_heap-work-requires-clause-within g c =
    ∥∥₁_elim c.requires.some (hlevel props) (λ z. let e = z.3 in let areas = c.requires.sound.areas in let b = object_fits c.args.map z.0 _ z.2 c.args.k z.1 e in omega (arith, b, c.get_scratch-old.ensures.value, areas))

pub returns-clause-within : goal.returns-clause-within
returns-clause-within g c =
    ∥∥₁_elim c.requires.some (hlevel props) (λ z. let e = z.3 in let areas = c.requires.sound.areas in let b = object_fits c.args.map z.0 _ z.2 c.args.k z.1 e in omega (arith, b, c.get_scratch-old.ensures.value, areas))

pub overflow_sub-result : goal.overflow_sub-result
overflow_sub-result g c =
    ∥∥₁_elim c.requires.some (hlevel props) (λ z.
    let m = c.args.map in
    let ws = g.W.Words.words c.args.words.now in
    let old = contents m ws in
    let k = c.args.k in
    let a = c.get_scratch-old.result in
    let word : c.get_heap-work.result ≡ get_or old.heap (get_or old.scratch (3 * k) 0 + 2) 0 = c.get_heap-work.ensures.value ∙ ap (λ (x : List ℕ). get_or (contents m x).heap (a + 2) 0) (c.get_heap.ensures.words ∙ c.get_scratch-old.ensures.words) ∙ ap (λ i. get_or old.heap (i + 2) 0) c.get_scratch-old.ensures.value in
    let index = index_told m z.0 old z.2 k z.1 z.3 in
    let low = index_low m z.0 old z.2 k z.1 z.3 in
    omega (arith, word, index, low))

pub overflow_cast-result-2 : goal.overflow_cast-result-2
overflow_cast-result-2 g c =
    ∥∥₁_elim c.requires.some (hlevel props) (λ z.
    let m = c.args.map in
    let ws = g.W.Words.words c.args.words.now in
    let old = contents m ws in
    let k = c.args.k in
    let a = c.get_scratch-old.result in
    let word : c.get_heap-work.result ≡ get_or old.heap (get_or old.scratch (3 * k) 0 + 2) 0 = c.get_heap-work.ensures.value ∙ ap (λ (x : List ℕ). get_or (contents m x).heap (a + 2) 0) (c.get_heap.ensures.words ∙ c.get_scratch-old.ensures.words) ∙ ap (λ i. get_or old.heap (i + 2) 0) c.get_scratch-old.ensures.value in
    let index = index_told m z.0 old z.2 k z.1 z.3 in
    let low = index_low m z.0 old z.2 k z.1 z.3 in
    omega (arith, word, index, low))

pub returns-clause-index : goal.returns-clause-index
returns-clause-index g c =
    ∥∥₁_elim c.requires.some (hlevel props) (λ z.
    let m = c.args.map in
    let ws = g.W.Words.words c.args.words.now in
    let old = contents m ws in
    let k = c.args.k in
    let a = c.get_scratch-old.result in
    let word : c.get_heap-work.result ≡ get_or old.heap (get_or old.scratch (3 * k) 0 + 2) 0 = c.get_heap-work.ensures.value ∙ ap (λ (x : List ℕ). get_or (contents m x).heap (a + 2) 0) (c.get_heap.ensures.words ∙ c.get_scratch-old.ensures.words) ∙ ap (λ i. get_or old.heap (i + 2) 0) c.get_scratch-old.ensures.value in
    let index = index_told m z.0 old z.2 k z.1 z.3 in
    let low = index_low m z.0 old z.2 k z.1 z.3 in
    omega (arith, word, index, low))

pub returns-clause-read : goal.returns-clause-read
returns-clause-read g c q ready n e =
    let m = c.args.map in
    let ws = g.W.Words.words c.args.words.now in
    let old = contents m ws in
    let k = c.args.k in
    let a = c.get_scratch-old.result in
    let word : c.get_heap-work.result ≡ get_or old.heap (get_or old.scratch (3 * k) 0 + 2) 0 = c.get_heap-work.ensures.value ∙ ap (λ (x : List ℕ). get_or (contents m x).heap (a + 2) 0) (c.get_heap.ensures.words ∙ c.get_scratch-old.ensures.words) ∙ ap (λ i. get_or old.heap (i + 2) 0) c.get_scratch-old.ensures.value in
    let header : c.get_heap.result ≡ get_or old.heap (get_or old.scratch (3 * k) 0) 0 = c.get_heap.ensures.value ∙ ap (λ (x : List ℕ). get_or (contents m x).heap a 0) c.get_scratch-old.ensures.words ∙ ap (λ i. get_or old.heap i 0) c.get_scratch-old.ensures.value in
    let size = size_told m q old n k ready e c.field_count-fields.result (λ f s hf hs x. c.field_count-fields.ensures.fields f s hf hs (header ∙ x)) in
    let index = index_told m q old n k ready e in
    (c.get_scratch-old.ensures.value ∙ e.place, size, omega (arith, word, index))
