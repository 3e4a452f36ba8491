use Rattle.checkpoints.specs.code.Checkpoint.{MarksStored}
use Rattle.checkpoints.proofs.checkpoint.marks_to.Given as goal

abbrev pub invariant-loop-node : goal.invariant-loop-node
invariant-loop-node l = MarksStored l.initial.stores l.word l.node l.stores
