-- `strike` meets its contract: the cut call, and the hit on the table that it leaves. Assumes nothing.
use Rattle.restore.proofs.Laws.RehearseCode.{struck_is}
use Rattle.restore.proofs.rehearse.strike.Goals as goal

pub returns : goal.returns
returns c = search struck_is
