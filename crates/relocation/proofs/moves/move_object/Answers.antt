use Rattle.std.proofs.Common.{◌≡◌, ◌≤◌, ◌+◌, arith, set, length, subst, sym, ap, ◌∙◌, List, ℕ, get_or}
use Rattle.object_layout.specs.Layout.{header_word}
use Rattle.heap_words.specs.Contents.{Contents}
use Rattle.heap_words.proofs.Contents.{length-heap}
use Rattle.epoch_lattice.specs.Lattice.{space_index}
use Rattle.yak_model.specs.Plans.{Move}
use Rattle.relocation.specs.Moves.{heap_of, move_of, fields_at, size_at, RunCopied, Copied}
use Rattle.relocation.proofs.Moving.{fields_at-header, object_copied, object_alone}
use Rattle.relocation.proofs.moves.move_object.Goals as goal

pub copy_words-requires-clause-from : goal.copy_words-requires-clause-from
copy_words-requires-clause-from g c =
    let m = c.args.map in
    let was = g.W.Words.words c.args.words.now in
    let e : fields_at (heap_of m was) c.args.v.old ≡ c.in-Some.header.fields = fields_at-header (heap_of m was) c.args.v.old c.in-Some.header c.in-Some.ensures.some.0 (sym c.get_heap.ensures.value ∙ sym c.in-Some.ensures.some.1) in
    omega (arith, c.requires.movable.old)

pub copy_words-requires-clause-to : goal.copy_words-requires-clause-to
copy_words-requires-clause-to g c =
    let m = c.args.map in
    let was = g.W.Words.words c.args.words.now in
    let e : fields_at (heap_of m was) c.args.v.old ≡ c.in-Some.header.fields = fields_at-header (heap_of m was) c.args.v.old c.in-Some.header c.in-Some.ensures.some.0 (sym c.get_heap.ensures.value ∙ sym c.in-Some.ensures.some.1) in
    omega (arith, c.requires.movable.new)

pub returns-clause-copied : goal.returns-clause-copied
returns-clause-copied g c =
    let m = c.args.map in
    let v : Move = move_of c.args.v in
    let was = g.W.Words.words c.args.words.now in
    let read = g.W.Words.words c.get_heap.new.words in
    let mid = g.W.Words.words c.copy_words.new.words in
    let first = g.W.Words.words c.set_heap.new.words in
    let next = g.W.Words.words c.set_heap-2.new.words in
    let w = c.encode_header.result in
    let e : fields_at (heap_of m was) v.old ≡ c.in-Some.header.fields = fields_at-header (heap_of m was) v.old c.in-Some.header c.in-Some.ensures.some.0 (sym c.get_heap.ensures.value ∙ sym c.in-Some.ensures.some.1) in
    let run : RunCopied (heap_of m was) (heap_of m mid) v.old v.new (size_at (heap_of m was) v.old) = subst (λ n. RunCopied (heap_of m was) (heap_of m mid) v.old v.new (n + 3)) (sym e) (subst (λ (ws : List ℕ). RunCopied (heap_of m ws) (heap_of m mid) v.old v.new (c.in-Some.header.fields + 3)) c.get_heap.ensures.words c.copy_words.ensures.run) in
    let one : heap_of m first ≡ set (heap_of m mid) v.new w = ap (λ (x : Contents). x.heap) c.set_heap.ensures.set in
    let two : heap_of m next ≡ set (set (heap_of m mid) v.new w) (v.new + 2) 0 = ap (λ (x : Contents). x.heap) c.set_heap-2.ensures.set ∙ ap (λ (h : List ℕ). set h (v.new + 2) 0) one in
    let within : v.new + size_at (heap_of m was) v.old ≤ length (heap_of m mid) = omega (arith, length-heap m mid c.copy_words.ensures.sound.whole, c.requires.movable.new) in
    let word : w ≡ header_word (record { fields = fields_at (heap_of m was) v.old; space = space_index v.space }) = c.encode_header.ensures.word ∙ ap (λ n. header_word (record { fields = n; space = c.index_of.result })) (sym e) ∙ ap (λ i. header_word (record { fields = fields_at (heap_of m was) v.old; space = i })) c.index_of.ensures.index in
    subst (λ (h : List ℕ). Copied (heap_of m was) h v) (sym two) (object_copied (heap_of m was) (heap_of m mid) v w run word within)

pub returns-clause-others : goal.returns-clause-others
returns-clause-others g c i b =
    let m = c.args.map in
    let v : Move = move_of c.args.v in
    let was = g.W.Words.words c.args.words.now in
    let mid = g.W.Words.words c.copy_words.new.words in
    let first = g.W.Words.words c.set_heap.new.words in
    let next = g.W.Words.words c.set_heap-2.new.words in
    let w = c.encode_header.result in
    let e : fields_at (heap_of m was) v.old ≡ c.in-Some.header.fields = fields_at-header (heap_of m was) v.old c.in-Some.header c.in-Some.ensures.some.0 (sym c.get_heap.ensures.value ∙ sym c.in-Some.ensures.some.1) in
    let run : RunCopied (heap_of m was) (heap_of m mid) v.old v.new (size_at (heap_of m was) v.old) = subst (λ n. RunCopied (heap_of m was) (heap_of m mid) v.old v.new (n + 3)) (sym e) (subst (λ (ws : List ℕ). RunCopied (heap_of m ws) (heap_of m mid) v.old v.new (c.in-Some.header.fields + 3)) c.get_heap.ensures.words c.copy_words.ensures.run) in
    let one : heap_of m first ≡ set (heap_of m mid) v.new w = ap (λ (x : Contents). x.heap) c.set_heap.ensures.set in
    let two : heap_of m next ≡ set (set (heap_of m mid) v.new w) (v.new + 2) 0 = ap (λ (x : Contents). x.heap) c.set_heap-2.ensures.set ∙ ap (λ (h : List ℕ). set h (v.new + 2) 0) one in
    ap (λ (h : List ℕ). get_or h i 0) two ∙ object_alone (heap_of m was) (heap_of m mid) v w (size_at (heap_of m was) v.old) run (omega arith) i b

pub returns-clause-reads : goal.returns-clause-reads
returns-clause-reads g c =
    let m = c.args.map in
    let was = g.W.Words.words c.args.words.now in
    let e : fields_at (heap_of m was) c.args.v.old ≡ c.in-Some.header.fields = fields_at-header (heap_of m was) c.args.v.old c.in-Some.header c.in-Some.ensures.some.0 (sym c.get_heap.ensures.value ∙ sym c.in-Some.ensures.some.1) in
    omega (arith, e, c.get_heap.ensures.reads, c.copy_words.ensures.reads, c.set_heap.ensures.reads, c.set_heap-2.ensures.reads)
