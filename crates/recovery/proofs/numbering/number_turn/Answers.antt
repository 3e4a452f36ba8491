-- `number_turn` meets its contract: the item's turn, or nothing to do. Assumes nothing.
use borrow.Author.Rules.{rules}
use Rattle.table.proofs.Laws.Made.{made_none, made_with}
use Rattle.recovery.proofs.Laws.NumberingCode.{number_nothing}
use Rattle.recovery.proofs.numbering.number_turn.Goals as goal

pub returns-else-not-plain : goal.returns-else-not-plain
returns-else-not-plain c =
    let a = c.args in
    made_with (made_none _) (number_nothing a.stores.now.g a.lost c.requires (search rules))
