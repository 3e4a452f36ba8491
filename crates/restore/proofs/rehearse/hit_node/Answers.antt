-- `hit_node` meets its contract. Assumes nothing.
use Rattle.restore.proofs.Laws.RehearseCode.{hit_there, hit_not_there}
use Rattle.restore.proofs.rehearse.hit_node.Goals as goal

pub returns-then-node-g : goal.returns-then-node-g
returns-then-node-g c = search hit_there

pub returns-else-node-g : goal.returns-else-node-g
returns-else-node-g c = search hit_not_there
