use Rattle.table.specs.View.{view}
use Rattle.survivors.specs.Survivors.{survivors}
use Rattle.recovery.specs.code.PartnersCode.{Filled}
use Rattle.recovery.proofs.partners.fill_used.Given as goal

abbrev pub invariant-loop-node : goal.invariant-loop-node
invariant-loop-node l = Filled l.g (survivors l.lost (view l.g l.table)) l.node l.initial.scratch l.scratch
