use Rattle.group_jobs.proofs.Dealing.{dealt_room}
use Rattle.group_jobs.proofs.laws.law_dealt_room.Goals as goal

pub returns : goal.returns
returns c = dealt_room
