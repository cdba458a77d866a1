use Rattle.heap_words.specs.Contents.{Sound}
use Rattle.relocation.proofs.tests.objects_that_refer_to_each_other_are_moved.Given as goal

abbrev pub invariant-loop-a : goal.invariant-loop-a
invariant-loop-a g l = Sound l.map l.image.words.items
