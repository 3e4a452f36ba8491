-- `step` meets its contract: none to be tried, or one fewer. Assumes nothing.
use Rattle.std.proofs.Common.{refl, arith}
use Rattle.counting.proofs.Laws.Cyclic.{cursor_steps}
use Rattle.counting.proofs.cyclic.step.Goals as goal

pub returns-then-untried-eq0 : goal.returns-then-untried-eq0
returns-then-untried-eq0 c = cursor_steps _ _ c.next_node-node.ensures (omega (arith, c.if-untried-eq0.true))

pub returns : goal.returns
returns c = cursor_steps _ _ c.next_node-node.ensures refl
