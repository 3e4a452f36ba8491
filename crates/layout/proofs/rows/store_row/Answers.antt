-- `store_row` meets its contract: the loop has stored the items before `item`. Assumes nothing.
use Rattle.layout.proofs.Laws.Rows.{row_starts, row_turns, row_ends}
use Rattle.layout.proofs.rows.store_row.Goals as goal

pub loop-item-init : goal.loop-item-init
loop-item-init c = row_starts

pub loop-item-preserved : goal.loop-item-preserved
loop-item-preserved c = search row_turns

pub returns : goal.returns
returns c = row_ends c.loop-item.invariant c.loop-item.auto.item-end c.loop-item-test.false
