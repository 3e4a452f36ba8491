-- `store_lost` meets its contract: a node of the table, or nobody is lost. Assumes nothing.
use Rattle.table.proofs.Laws.Made.{made_none, made_with}
use Rattle.survivors.proofs.Laws.ClosingMarksCode.{lost_nobody}
use Rattle.recovery.proofs.marks.store_lost.Goals as goal

pub returns-in_default : goal.returns-in_default
returns-in_default c = made_with (made_none _) (lost_nobody _ c.args.lost _ _ c.in_default.is)
