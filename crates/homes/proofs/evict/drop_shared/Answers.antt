-- `drop_shared` meets its contract: one store, by the state read. Assumes nothing.
use mathlib.Core.Path.{ap, sym}
use Rattle.table.proofs.Laws.Made.{made_as}
use Rattle.homes.specs.Evict.{source_stores}
use Rattle.homes.proofs.evict.drop_shared.Goals as goal

pub returns : goal.returns
returns c = made_as (ap (source_stores _ _ _) (sym c.state-word.ensures)) c.leave_source.ensures
