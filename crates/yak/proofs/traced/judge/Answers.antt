use Rattle.yak.proofs.traced.judge.Goals as goal

pub returns-in-Ok-None : goal.returns-in-Ok-None
returns-in-Ok-None c = c.tell_lawful.ensures c.args.bytes.now c.in-Ok.text c.in-Ok.ensures.found (rw c.in-Ok-None.field-0-is at c.in-Ok-None.ensures.lawful)

pub returns-in-Ok-Some : goal.returns-in-Ok-Some
returns-in-Ok-Some c = c.tell_break.ensures c.args.bytes.now c.in-Ok.text c.in-Ok.ensures.found (rw c.in-Ok-Some.field-0-is at c.in-Ok-Some.ensures.breaks)
