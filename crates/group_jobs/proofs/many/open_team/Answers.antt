use Rattle.std.proofs.Common.{arith}
use Rattle.yak_model.specs.Texts.{words_of}
use Rattle.group_jobs.proofs.Counting.{none_long}
use Rattle.group_jobs.proofs.Starting.{few_tasks, few_words}
use Rattle.group_jobs.proofs.many.open_team.Goals as goal

pub returns-clause-few : goal.returns-clause-few
returns-clause-few c = let few = few_tasks c.args.bytes.now c.args.lines c.in-Ok.tasks.items c.in-Ok.ensures.tasks in omega (arith, few, c.requires.short)

pub returns-clause-may : goal.returns-clause-may
returns-clause-may c =
    let few = few_words c.args.bytes.now in
    record {
      lines = c.args.lines;
      cut = c.in-Ok.ensures.tasks;
      small = (none_long (words_of c.args.bytes.now) c.requires.words, omega (arith, few, c.requires.short));
    }
