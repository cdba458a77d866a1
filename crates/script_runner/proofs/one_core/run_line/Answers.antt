use Rattle.heap_core.specs.Steps.{entries}
use Rattle.script_runner.specs.Runs.{held_of}
use Rattle.script_runner.proofs.Runs.{calls_of_line, packed_after}
use Rattle.script_runner.proofs.one_core.run_line.Goals as goal

pub returns-clause-runs : goal.returns-clause-runs
returns-clause-runs c = record {
  entries = entries c.args.line.thread c.args.line.call c.step-stepped.result;
  told = calls_of_line c.args.line c.step-stepped.result;
  turns = λ state stands recorded. let turned = c.step-stepped.ensures.turns state stands in (turned.0, turned.1, turned.2, turned.3 recorded);
  lawful = c.step-stepped.ensures.lawful;
  packed = packed_after c.args.line.thread c.args.line.call c.step-stepped.result
      (held_of c.step-stepped.new.self.map c.step-stepped.new.self.words.words.items) c.step-stepped.ensures.packed;
}
