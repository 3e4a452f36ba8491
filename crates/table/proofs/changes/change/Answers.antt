-- `change` meets its contract: the state's row, the event's column. Assumes nothing.
use Rattle.std.proofs.Common.{◌%◌, get_or, [], ap}
use Rattle.table.specs.Changes.{changes, change_of}
use Rattle.table.proofs.changes.change.Goals as goal

pub returns : goal.returns
unfolding change_of
returns c = ap (λ k. get_or (get_or changes (c.args.state % 8) []) k 0) c.column.ensures
