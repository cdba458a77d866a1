use Rattle.std.proofs.Common.{◌≡◌, ◌+◌, ◌*◌, ◌≤◌, length, false, take}
use Rattle.yak_model.specs.Private.{KnownObjects}
use Rattle.heap_tables.specs.Epochs.{GrowsBy, Went}
use Rattle.group_jobs.specs.Epochs.{MakesEpochs}
use Rattle.group_jobs.specs.Tallies.{KnowsProgress, is_busy, new_total, tasks_room, words_in}
use Rattle.group_jobs.specs.declared.TheConstants.{OBJECTS_FOR_WORD}
use Rattle.group_jobs.proofs.tallies.count_tasks.Given as goal

abbrev pub invariant-tasks : goal.invariant-tasks
invariant-tasks g l = let C = g.C.Caller in let passed = take l.task-index l.tasks in record {
  went : Went C.base C.tells C.tells_known C.standing l.fn.caller l.caller (new_total false l.has_total + tasks_room l.bytes passed);
  depth : (C.standing l.caller).own.depth ≡ 0;
  made : (C.standing l.caller).own.made ≤ (C.standing l.fn.caller).own.made + OBJECTS_FOR_WORD * length (words_in l.bytes passed);
  has : l.has_total ≡ is_busy (words_in l.bytes passed);
  counted : (known : KnownObjects) → C.knows l.fn.caller known → KnowsProgress l.has_total (C.standing l.fn.caller) known (C.standing l.caller) (C.knows l.caller) (words_in l.bytes passed);
  epochs : GrowsBy (MakesEpochs (C.standing l.fn.caller).thread l.task-index) (C.standing l.fn.caller).list (C.standing l.caller).list;
}
