-- `format_node` meets its contract: the row is that of Format. Assumes nothing.
use Rattle.table.proofs.Laws.Made.{made_with}
use Rattle.layout.proofs.Laws.FormatRow.{row_first}
use Rattle.layout.proofs.format.format_node.Goals as goal

pub returns : goal.returns
returns c =
    let a = c.requires in
    let m = c.store_row.ensures in
    made_with m (row_first a.0 a.1 m.stored)
