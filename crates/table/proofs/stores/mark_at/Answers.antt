-- `mark_at` meets its contract: a mark, or the zero of a node that is not there. Assumes nothing.
use Rattle.table.proofs.Laws.View.{mark_read, mark_none}
use Rattle.table.proofs.stores.mark_at.Goals as goal

pub returns-then-node-g : goal.returns-then-node-g
returns-then-node-g c = mark_read _ _ _ c.if-node-g.true c.word.ensures

pub returns-else-node-g : goal.returns-else-node-g
returns-else-node-g c = mark_none _ _ _ c.if-node-g.false
