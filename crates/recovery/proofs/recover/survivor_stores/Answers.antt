-- `survivor_stores` meets its contract: the stages, each on the table that it finds. Assumes nothing.
use Rattle.recovery.proofs.Laws.RecoverCode.{restored}
use Rattle.recovery.proofs.Laws.RestoreCode.{restore_pairable}
use Rattle.recovery.proofs.recover.survivor_stores.Goals as goal
use borrow.Author.Rules.{rules}

pub pair-requires : goal.pair-requires
pair-requires c = restore_pairable c.args.lost c.requires c.roll.ensures.made (search rules)

pub returns : goal.returns
returns c = restored c.args.lost c.requires c.roll.ensures.made c.pair.ensures c.close.ensures
