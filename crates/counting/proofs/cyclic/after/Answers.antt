-- `after` meets its contract: no node, or the next. Assumes nothing.
use Rattle.counting.proofs.Laws.Cyclic.{cursor_outside, cursor_starts}
use Rattle.counting.proofs.cyclic.after.Goals as goal

pub returns-then-nodes-node : goal.returns-then-nodes-node
returns-then-nodes-node c = cursor_outside _ _ c.if-nodes-node.true

pub returns : goal.returns
returns c = cursor_starts _ _ c.if-nodes-node.false c.next_node.ensures
