-- `recover_stores` meets its contract: the lost mark, the stages, the scratch. Assumes nothing.
use Rattle.recovery.proofs.Laws.RecoverCode.{restore_ready, recovered}
use Rattle.recovery.proofs.recover.recover_stores.Goals as goal

pub survivor_stores-requires : goal.survivor_stores-requires
survivor_stores-requires c = restore_ready c.args.lost c.requires c.store_lost.ensures

pub returns : goal.returns
returns c =
    recovered _ c.requires.carriable c.scratch_words.ensures c.store_lost.ensures c.survivor_stores.ensures c.clear.ensures
