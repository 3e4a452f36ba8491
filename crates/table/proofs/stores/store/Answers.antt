-- `store` meets its contract: nothing left, past the end, or written. Assumes nothing.
use Rattle.table.proofs.Laws.Stores.{wrote_cut, wrote_past, wrote_word}
use Rattle.table.proofs.stores.store.Goals as goal

pub returns-then-left-eq0 : goal.returns-then-left-eq0
returns-then-left-eq0 c = wrote_cut _ _ _ _ c.if-left-eq0.true

pub returns-then-table-at : goal.returns-then-table-at
returns-then-table-at c = wrote_past _ _ _ _ c.if-left-eq0.false c.if-table-at.true

pub returns : goal.returns
returns c = wrote_word _ _ _ _ c.if-left-eq0.false
