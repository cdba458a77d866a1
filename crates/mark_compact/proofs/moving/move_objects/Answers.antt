use Rattle.std.proofs.Props.{props}
use Rattle.std.proofs.Math.Logic.{∥∥₁_elim}
use Rattle.std.proofs.Common.{◌≡◌, ℕ, ◌+◌, ◌*◌, ◌/◌, ◌<◌, ◌≤◌, List, get_or, sym, ap, subst, ◌∙◌, arith}
use Rattle.heap_words.specs.Map.{page_words, heap_length}
use Rattle.heap_words.specs.Contents.{Contents, contents}
use Rattle.yak_model.specs.State.{view}
use Rattle.relocation.specs.Moves.{HasHeader, heap_of, move_at, scratch_of, size_at}
use Rattle.relocation.specs.Slide.{IsPageOf, brought}
use Rattle.yak_model.specs.Plans.{forwarded}
use Rattle.relocation.proofs.Lawful.{lawful-movable}
use Rattle.relocation.specs.Slide.{TableAfter}
use Rattle.relocation.proofs.Told.{ready-movable}
use Rattle.mark_compact.specs.Collecting.{Lain}
use Rattle.mark_compact.specs.declared.sliding.TheConstants.{CONTROL_WORD}
use Rattle.mark_compact.proofs.Tables.{length-table}
use Rattle.mark_compact.proofs.Lies.{control-now, lain, moved-header, ready-led, room, size-new, tight}
use Rattle.mark_compact.proofs.moving.move_objects.Goals as goal

pub move_all-requires-clause-lawful : goal.move_all-requires-clause-lawful
move_all-requires-clause-lawful g c =
    let first = contents c.args.map (g.W.Words.words c.args.words.now) in
    ready-led c.args.map first c.args.plan.count (move_at first.scratch) c.requires.led

pub settle_pages-requires-clause-room : goal.settle_pages-requires-clause-room
settle_pages-requires-clause-room g c =
    let m = c.args.map in
    let moves = move_at (contents m (g.W.Words.words c.args.words.now)).scratch in
    ∥∥₁_elim c.requires.led (hlevel props) (λ q. room m q.0 q.2 q.3 q.1 c.args.plan.count moves q.4 c.requires.sound.areas)

-- the objects of the moves stand at their new places
pub returns-clause-headers : goal.returns-clause-headers
returns-clause-headers g c =
    let m = c.args.map in
    let first = contents m (g.W.Words.words c.args.words.now) in
    let mid = g.W.Words.words c.move_all.new.words in
    let fin = contents m (g.W.Words.words c.settle_pages.new.words) in
    let count = c.args.plan.count in
    let moves = move_at first.scratch in
    let movable = ready-movable m first.heap count moves c.requires.sound.areas (ready-led m first count moves c.requires.led) in
    let heap : fin.heap ≡ heap_of m mid = ap (λ (x : Contents). x.heap) c.settle_pages.ensures.frame in
    let scratch : fin.scratch ≡ first.scratch = ap (λ (x : Contents). x.scratch) c.settle_pages.ensures.frame ∙ ap (λ (x : Contents). x.scratch) c.move_all.ensures.only_heap in
    subst (λ (hp : List ℕ). (k : ℕ) → k < count → HasHeader hp (move_at fin.scratch k).new × ((move_at fin.scratch k).new + size_at hp (move_at fin.scratch k).new ≤ heap_length m)) (sym heap)
    (subst (λ (sc : List ℕ). (k : ℕ) → k < count → HasHeader (heap_of m mid) (move_at sc k).new × ((move_at sc k).new + size_at (heap_of m mid) (move_at sc k).new ≤ heap_length m)) (sym scratch)
    (λ k lt.
    let x = moved-header m first.heap (heap_of m mid) count moves movable c.move_all.ensures.moved k lt in
    let w = (movable.each k lt).new in
    (x.0, omega (arith, w, x.1))))

pub settle_pages-requires-clause-moved : goal.settle_pages-requires-clause-moved
settle_pages-requires-clause-moved g c =
    let m = c.args.map in
    let first = contents m (g.W.Words.words c.args.words.now) in
    let mid = g.W.Words.words c.move_all.new.words in
    let count = c.args.plan.count in
    let moves = move_at first.scratch in
    let movable = ready-movable m first.heap count moves c.requires.sound.areas (ready-led m first count moves c.requires.led) in
    let scratch : scratch_of m mid ≡ first.scratch = ap (λ (x : Contents). x.scratch) c.move_all.ensures.only_heap in
    subst (λ (sc : List ℕ). (k : ℕ) → k < count → HasHeader (heap_of m mid) (move_at sc k).new × ((move_at sc k).new + size_at (heap_of m mid) (move_at sc k).new ≤ heap_length m)) (sym scratch)
    (λ k lt.
    let x = moved-header m first.heap (heap_of m mid) count moves movable c.move_all.ensures.moved k lt in
    let w = (movable.each k lt).new in
    (x.0, omega (arith, w, x.1)))

pub returns-clause-lain : goal.returns-clause-lain
returns-clause-lain g c was planned s h p led =
    let m = c.args.map in
    let first = contents m (g.W.Words.words c.args.words.now) in
    let mid = g.W.Words.words c.move_all.new.words in
    let fin = contents m (g.W.Words.words c.settle_pages.new.words) in
    let count = c.args.plan.count in
    let moves = move_at first.scratch in
    let areas = c.requires.sound.areas in
    let done = c.move_all.ensures.moved in
    let movable = lawful-movable m first.heap count moves (view s) h.places.at (forwarded count moves h.places.at) (λ n. get_or planned.heap (h.places.at n + 2) 0) p.dropped areas p.lawful led.holds in
    let scratch : scratch_of m mid ≡ first.scratch = ap (λ (x : Contents). x.scratch) c.move_all.ensures.only_heap in
    let table : (contents m mid).table ≡ planned.table = ap (λ (x : Contents). x.table) c.move_all.ensures.only_heap ∙ ap (λ (x : Contents). x.table) led.frame in
    let fin-is : fin ≡ record first { heap = heap_of m mid; table = fin.table } = c.settle_pages.ensures.frame ∙ ap (λ (x : Contents). record x { table = fin.table }) c.move_all.ensures.only_heap in
    let holds = c.move_all.ensures.objects (view s) h.places.at (λ n. get_or planned.heap (h.places.at n + 2) 0) p.dropped p.lawful led.holds in
    let put : (sc : List ℕ) (tb : List (List ℕ)) → scratch_of m mid ≡ sc → (contents m mid).table ≡ tb → ((k : ℕ) → k < count → size_at (heap_of m mid) (move_at sc k).new ≡ size_at p.marked.heap (move_at sc k).old) → ((k : ℕ) → k < count → (move_at sc k).new ≡ page_words m * ((move_at sc k).new / page_words m) + brought m p.marked.heap k (move_at sc) ((move_at sc k).new / page_words m)) → ((k : ℕ) → k < count → ((move_at sc k).new / page_words m < m.pages) × IsPageOf CONTROL_WORD tb ((move_at sc k).new / page_words m)) → TableAfter m CONTROL_WORD tb p.marked.heap fin.table count (move_at sc) m.pages = λ sc tb e f. rw (← e, ← f) (c.settle_pages.ensures.settled p.marked.heap) in
    let settled : TableAfter m CONTROL_WORD planned.table p.marked.heap fin.table count moves m.pages = put first.scratch planned.table scratch table (size-new m was s h planned count moves p areas first led movable (heap_of m mid) done) (tight m was s h planned count moves p areas first led movable (heap_of m mid) done) (control-now m was s h planned count moves p areas first led movable (heap_of m mid) done) in
    subst (λ (x : Contents). Lain m was s h.places x count (move_at x.scratch)) (sym fin-is)
    (lain m was s h planned count moves p areas first led movable (heap_of m mid) done holds fin.table (length-table m (g.W.Words.words c.settle_pages.new.words)) settled)
