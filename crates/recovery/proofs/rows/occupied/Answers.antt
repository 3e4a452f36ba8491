-- `occupied` meets its contract: the row is the node's. Assumes nothing.
use Rattle.recovery.proofs.Laws.Rows.{listed_part, row_listed}
use Rattle.recovery.proofs.rows.occupied.Goals as goal

pub returns : goal.returns
returns c = listed_part (row_listed _ _ _ c.requires.0 c.entry_at-start.ensures c.occupied_row-count.ensures.listed)
