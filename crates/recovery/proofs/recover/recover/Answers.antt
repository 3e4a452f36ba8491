-- `recover` meets its contract: the sizes, or the recovery of a table of that size. Assumes nothing.
use Rattle.recovery.proofs.Laws.RecoverCode.{recover_failed, recover_sized, recover_passed, recover_refused}
use Rattle.recovery.proofs.recover.recover.Goals as goal

pub recover_sized-requires : goal.recover_sized-requires
recover_sized-requires c = recover_sized _ c.sizes.ensures c.in-Ok.is

pub returns-in-Err : goal.returns-in-Err
returns-in-Err c = recover_refused _ _ _ (recover_failed _ _ _ c.sizes.ensures c.in-Err.is)

pub returns-in-Ok : goal.returns-in-Ok
returns-in-Ok c = recover_passed _ _ _ c.sizes.ensures c.in-Ok.is c.recover_sized.ensures
