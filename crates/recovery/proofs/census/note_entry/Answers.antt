-- `note_entry` meets its contract. Assumes nothing.
use mathlib.Core.Path.{refl}
use Rattle.recovery.proofs.Laws.CensusEntry.{entry_noted}
use Rattle.recovery.proofs.census.note_entry.Goals as goal

pub returns : goal.returns
returns c =
    let a = c.args in
    entry_noted _ _ a.table.now a.at _ _ _ c.weight-weight.ensures refl c.either-known.ensures c.either.ensures c.either-met.ensures
