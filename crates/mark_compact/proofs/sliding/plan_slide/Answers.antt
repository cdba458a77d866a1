use Rattle.std.proofs.Common.{◌≡◌, arith, subst, sym, ap, ◌∙◌, List, ℕ}
use Rattle.heap_words.specs.Map.{heap_length}
use Rattle.heap_words.specs.Contents.{Contents, contents}
use Rattle.relocation.specs.Moves.{scratch_of}
use Rattle.epoch_lattice.specs.declared.Space.TheVariants.{Control}
use Rattle.yak_model.specs.Stands.{pages_of}
use Rattle.relocation.specs.Moves.{heap_of, move_at}
use Rattle.yak_model.specs.Plans.{IsLawfulPlan}
use Rattle.relocation.specs.Slide.{Runs, Sliding, pages_before}
use Rattle.mark_compact.specs.declared.sliding.TheConstants.{CONTROL_WORD}
use Rattle.relocation.proofs.Slid.{slide-movable}
use Rattle.relocation.proofs.SlidLawful.{runs_of, slide-lawful}
use Rattle.mark_compact.proofs.sliding.plan_slide.Goals as goal

pub give_back-requires-clause-within : goal.give_back-requires-clause-within
give_back-requires-clause-within g c =
    let m = c.args.map in
    let e : g.W.Words.words c.empty_plan-plan.new.words ≡ g.W.Words.words c.args.words.now = ap g.W.Words.words c.empty_plan-plan.ensures.words in
    let s = c.plan_pages.ensures.sliding (subst (λ (ws : List ℕ). Runs m CONTROL_WORD (contents m ws)) (sym e) c.requires.runs) in
    s.filled.3

pub returns-clause-numbered : goal.returns-clause-numbered
returns-clause-numbered g c =
    let m = c.args.map in
    let e : g.W.Words.words c.empty_plan-plan.new.words ≡ g.W.Words.words c.args.words.now = ap g.W.Words.words c.empty_plan-plan.ensures.words in
    let s = c.plan_pages.ensures.sliding (subst (λ (ws : List ℕ). Runs m CONTROL_WORD (contents m ws)) (sym e) c.requires.runs) in
    let heap : heap_of m (g.W.Words.words c.give_back.new.words) ≡ heap_of m (g.W.Words.words c.plan_pages.new.words) = ap (λ (x : Contents). x.heap) c.give_back.ensures.given_back.elsewhere in
    rw (heap, (ap (λ (x : Contents). x.scratch) c.give_back.ensures.given_back.elsewhere)) s.numbered

pub returns-clause-movable : goal.returns-clause-movable
returns-clause-movable g c =
    let m = c.args.map in
    let e : g.W.Words.words c.empty_plan-plan.new.words ≡ g.W.Words.words c.args.words.now = ap g.W.Words.words c.empty_plan-plan.ensures.words in
    let s = c.plan_pages.ensures.sliding (subst (λ (ws : List ℕ). Runs m CONTROL_WORD (contents m ws)) (sym e) c.requires.runs) in
    let heap : heap_of m (g.W.Words.words c.give_back.new.words) ≡ heap_of m (g.W.Words.words c.plan_pages.new.words) = ap (λ (x : Contents). x.heap) c.give_back.ensures.given_back.elsewhere in
    rw (heap, (ap (λ (x : Contents). x.scratch) c.give_back.ensures.given_back.elsewhere)) (slide-movable m CONTROL_WORD _ _ _ _ _ _ _ _ s)

pub returns-clause-lawful : goal.returns-clause-lawful
returns-clause-lawful g c s l work dropped h closed drops rest =
    let m = c.args.map in
    let first = g.W.Words.words c.args.words.now in
    let last = g.W.Words.words c.plan_pages.new.words in
    let e : g.W.Words.words c.empty_plan-plan.new.words ≡ first = ap g.W.Words.words c.empty_plan-plan.ensures.words in
    let slide : (runs : Runs m CONTROL_WORD (contents m first)) → Sliding m CONTROL_WORD (contents m first) runs (contents m last) c.plan_pages.new.plan.count (move_at (scratch_of m last)) c.plan_pages.new.cursor.next c.plan_pages.new.cursor.room (heap_length m) = subst (λ (ws : List ℕ). (runs : Runs m CONTROL_WORD (contents m ws)) → Sliding m CONTROL_WORD (contents m ws) runs (contents m last) c.plan_pages.new.plan.count (move_at (scratch_of m last)) c.plan_pages.new.cursor.next c.plan_pages.new.cursor.room (heap_length m)) e c.plan_pages.ensures.sliding in
    subst (λ (x : List ℕ). IsLawfulPlan m c.plan_pages.new.plan.count (move_at x) s l.at dropped) (sym (ap (λ (x : Contents). x.scratch) c.give_back.ensures.given_back.elsewhere)) (slide-lawful m CONTROL_WORD (contents m first) s l work dropped (contents m last) c.plan_pages.new.plan.count (move_at (scratch_of m last)) c.plan_pages.new.cursor.next c.plan_pages.new.cursor.room h closed (omega arith) drops rest (slide (runs_of m CONTROL_WORD (contents m first) s l work h closed (omega arith))))

pub returns-clause-slid : goal.returns-clause-slid
returns-clause-slid g c runs =
    let m = c.args.map in
    let first = g.W.Words.words c.args.words.now in
    let last = g.W.Words.words c.plan_pages.new.words in
    let e : g.W.Words.words c.empty_plan-plan.new.words ≡ first = ap g.W.Words.words c.empty_plan-plan.ensures.words in
    let slide : (runs : Runs m CONTROL_WORD (contents m first)) → Sliding m CONTROL_WORD (contents m first) runs (contents m last) c.plan_pages.new.plan.count (move_at (scratch_of m last)) c.plan_pages.new.cursor.next c.plan_pages.new.cursor.room (heap_length m) = subst (λ (ws : List ℕ). (runs : Runs m CONTROL_WORD (contents m ws)) → Sliding m CONTROL_WORD (contents m ws) runs (contents m last) c.plan_pages.new.plan.count (move_at (scratch_of m last)) c.plan_pages.new.cursor.next c.plan_pages.new.cursor.room (heap_length m)) e c.plan_pages.ensures.sliding in
    record {
      next = c.plan_pages.new.cursor.next;
      room = c.plan_pages.new.cursor.room;
      planned = contents m last;
      sliding = subst (λ (x : List ℕ). Sliding m CONTROL_WORD (contents m first) runs (contents m last) c.plan_pages.new.plan.count (move_at x) c.plan_pages.new.cursor.next c.plan_pages.new.cursor.room (heap_length m)) (sym (ap (λ (x : Contents). x.scratch) c.give_back.ensures.given_back.elsewhere)) (slide runs);
      given_back = c.give_back.ensures.given_back;
    }

pub returns-clause-packed : goal.returns-clause-packed
returns-clause-packed g c =
    let m = c.args.map in
    let first = g.W.Words.words c.args.words.now in
    let last = g.W.Words.words c.plan_pages.new.words in
    let e : g.W.Words.words c.empty_plan-plan.new.words ≡ first = ap g.W.Words.words c.empty_plan-plan.ensures.words in
    let slide : (runs : Runs m CONTROL_WORD (contents m first)) → Sliding m CONTROL_WORD (contents m first) runs (contents m last) c.plan_pages.new.plan.count (move_at (scratch_of m last)) c.plan_pages.new.cursor.next c.plan_pages.new.cursor.room (heap_length m) = subst (λ (ws : List ℕ). (runs : Runs m CONTROL_WORD (contents m ws)) → Sliding m CONTROL_WORD (contents m ws) runs (contents m last) c.plan_pages.new.plan.count (move_at (scratch_of m last)) c.plan_pages.new.cursor.next c.plan_pages.new.cursor.room (heap_length m)) e c.plan_pages.ensures.sliding in
    let s = slide c.requires.runs in
    let table : (contents m last).table ≡ (contents m first).table = ap (λ (x : Contents). x.table) s.elsewhere in
    let pages : pages_of (contents m (g.W.Words.words c.give_back.new.words)).table Control ≡ pages_before CONTROL_WORD (contents m first).table c.plan_pages.new.cursor.next = c.give_back.ensures.packed ∙ ap (λ (t : List (List ℕ)). pages_before CONTROL_WORD t c.plan_pages.new.cursor.next) table in
    let dense = s.dense in
    let room = s.filled.1 in
    rw ((ap (λ (x : Contents). x.scratch) c.give_back.ensures.given_back.elsewhere), pages) (omega (arith, dense, room))
