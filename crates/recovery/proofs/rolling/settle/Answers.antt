-- `settle` meets its contract: nothing, or one state store. Assumes nothing.
use Rattle.table.proofs.Laws.Made.{made_in_as, made_none}
use Rattle.recovery.proofs.Laws.RollingCode.{settle_stays, settle_stores}
use Rattle.recovery.proofs.rolling.settle.Goals as goal

pub returns-then-next-current : goal.returns-then-next-current
returns-then-next-current c =
    made_in_as _ _
    (settle_stays _ c.requires c.current_of-current.ensures c.kept_of-kept.ensures _ c.if-next-current.true)
    (made_none _)

pub returns : goal.returns
returns c =
    made_in_as _ _
    (settle_stores _ c.requires c.current_of-current.ensures c.kept_of-kept.ensures _ c.if-next-current.false)
    c.store_state.ensures
