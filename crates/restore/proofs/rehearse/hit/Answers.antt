-- `hit` meets its contract: a node of a table of any size, or none. Assumes nothing.
use Rattle.restore.proofs.Laws.RehearseCode.{hit_nobody, hit_failed, hit_passed}
use Rattle.restore.proofs.rehearse.hit.Goals as goal

pub returns-in_default : goal.returns-in_default
returns-in_default c = search hit_nobody

pub returns-in_default-sizes : goal.returns-in_default-sizes
returns-in_default-sizes c = search hit_failed

pub returns-in-Ok : goal.returns-in-Ok
returns-in-Ok c = search hit_passed
