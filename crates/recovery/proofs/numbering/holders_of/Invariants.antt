use Rattle.table.specs.View.{view}
use Rattle.survivors.specs.Survivors.{survivors}
use Rattle.recovery.specs.code.NumberingCode.{HoldersTo}
use Rattle.recovery.proofs.numbering.holders_of.Given as goal

abbrev pub invariant-loop-node : goal.invariant-loop-node
invariant-loop-node l = HoldersTo (survivors l.lost (view l.g l.table)) l.item l.node l.all
