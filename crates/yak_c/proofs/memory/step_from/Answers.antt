use Rattle.std.proofs.Common.{ap, sym, subst, ◌∙◌}
use Rattle.heap_words.specs.Contents.{contents}
use Rattle.heap_core.specs.Done.{Done}
use Rattle.yak_model.specs.Recorded.{SomeRecorded}
use Rattle.heap_core.proofs.Called.{StepTold, step-done}
use Rattle.yak_c.specs.declared.lent.Lent.{Lent}
use Rattle.yak_c.proofs.memory.step_from.Goals as goal

pub over-core-requires-clause-stands : goal.over-core-requires-clause-stands
over-core-requires-clause-stands c = subst (λ ws. SomeRecorded c.args.map (contents c.args.map ws)) (sym c.new.ensures.words) c.requires.holds.stands

pub returns-clause-holds : goal.returns-clause-holds
returns-clause-holds c =
    let m = c.args.map in
    let after = c.step-stepped.new.self in
    let same = c.into_slice.ensures.words ∙ ap (λ (l : Lent). l.words.now) c.into_words.ensures in
    record {
      gate = c.into_slice.ensures.gate;
      stands = subst (λ ws. SomeRecorded m (contents m ws)) (sym same)
          (subst (λ n. SomeRecorded n (contents n after.words.words.now)) (c.step-stepped.ensures.map ∙ c.over-core.ensures.map) after.stands);
    }

pub returns-clause-done : goal.returns-clause-done
returns-clause-done c =
    let m = c.args.map in
    let core = c.over-core.result in
    let step = c.step-stepped in
    let w0 = core.words.words.now in
    let w1 = step.new.self.words.words.now in
    let told : StepTold core.map step.new.self.map w0 w1 c.args.thread c.args.call step.result = record {
      turns = step.ensures.turns;
      lawful = step.ensures.lawful;
      collected = step.ensures.collected;
      full = step.ensures.full;
      filled = step.ensures.filled;
      shortage = step.ensures.shortage;
      ended = step.ensures.ended;
      census = step.ensures.census;
      packed = step.ensures.packed;
      records = step.ensures.records;
      room = step.ensures.room;
      idle = step.ensures.idle;
    } in
    let done = step-done core.map step.new.self.map step.ensures.map w0 w1 c.args.thread c.args.call step.result told in
    let before = ap (λ (l : Lent). l.words.now) c.over-core.ensures.words ∙ c.new.ensures.words in
    let same = c.into_slice.ensures.words ∙ ap (λ (l : Lent). l.words.now) c.into_words.ensures in
    subst (λ ws. Done m (contents m c.args.words.now) (contents m ws) c.args.thread c.args.call step.result) (sym same)
    (subst (λ ws. Done m (contents m ws) (contents m w1) c.args.thread c.args.call step.result) before
    (subst (λ n. Done n (contents n w0) (contents n w1) c.args.thread c.args.call step.result) c.over-core.ensures.map done))
