-- `state_in` meets its contract: the word at the entry's place. Assumes nothing.
use Rattle.recovery.proofs.Laws.Rows.{entry_state}
use Rattle.recovery.proofs.rows.state_in.Goals as goal

pub returns : goal.returns
returns c = entry_state c.args.g c.args.table.now c.args.node c.args.item c.requires c.entry_at-at.ensures.at
