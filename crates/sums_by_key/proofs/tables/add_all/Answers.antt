use Rattle.std.proofs.Common.{rules, ◌≤◌, length, take, subst}
use Rattle.sums_by_key.specs.Held.{HoldsSums}
use Rattle.sums_by_key.proofs.Parts.{cut_next, cut_summable, whole}
use Rattle.sums_by_key.proofs.tables.add_all.Goals as goal

pub add_epoch-requires-clause-held : goal.add_epoch-requires-clause-held
add_epoch-requires-clause-held g c =
    let later : c.epochs.start ≤ c.min-end.result = search rules in
    (take c.epochs.start c.args.lines.now, c.epochs.invariant.added, cut_summable c.args.lines.now c.epochs.start c.min-end.result later c.requires.summable)

pub epochs-preserved : goal.epochs-preserved
epochs-preserved g c =
    let C = g.C.Caller in
    let lines = c.args.lines.now in
    let inv = c.epochs.invariant in
    let r = c.in_ok-add_epoch.ensures in
    let later : c.epochs.start ≤ c.min-end.result = search rules in
    let within : c.min-end.result ≤ length lines = search rules in
    record {
      start = within;
      slots = r.slots;
      depth = r.depth;
      made = search rules;
      added = subst (HoldsSums (C.standing c.add_epoch.new.caller) (C.knows c.add_epoch.new.caller)) (cut_next lines c.epochs.start c.min-end.result later)
          (r.added (take c.epochs.start lines) inv.added (cut_summable lines c.epochs.start c.min-end.result later c.requires.summable));
    }

pub returns-clause-added : goal.returns-clause-added
returns-clause-added g c =
    let C = g.C.Caller in
    subst (HoldsSums (C.standing c.epochs.caller) (C.knows c.epochs.caller)) (whole c.args.lines.now c.epochs.start c.epochs-test.false) c.epochs.invariant.added
