-- `value_in` meets its contract: the word after the entry's place. Assumes nothing.
use Rattle.recovery.proofs.Laws.Rows.{entry_value}
use Rattle.recovery.proofs.rows.value_in.Goals as goal

pub returns : goal.returns
returns c = entry_value c.args.g c.args.table.now c.args.node c.args.item c.requires c.entry_at-at.ensures.at
