-- `next_node` meets its contract: back to 0, or one on. Assumes nothing.
use Rattle.std.proofs.Common.{arith}
use Rattle.counting.proofs.Laws.Cyclic.{next_wraps, next_follows}
use Rattle.counting.proofs.cyclic.next_node.Goals as goal

pub returns-then-nodes-next : goal.returns-then-nodes-next
returns-then-nodes-next c = let a = c.args in next_wraps a.nodes a.node (omega (arith, c.if-nodes-next.true))

pub returns : goal.returns
returns c = let a = c.args in next_follows a.nodes a.node (omega (arith, c.if-nodes-next.false))
