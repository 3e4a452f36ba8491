-- `own_entry` meets its contract: its keep, then value and state, as `own_changes` lists them. Assumes nothing.
use Rattle.calls.proofs.Laws.WriteCode.{own_all}
use Rattle.calls.proofs.write.own_entry.Goals as goal

pub returns : goal.returns
returns c = search own_all
