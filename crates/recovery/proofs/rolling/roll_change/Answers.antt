-- `roll_change` meets its contract: an Inv-CK that comes back, or one state store. Assumes nothing.
use Rattle.table.proofs.Laws.Made.{made_in_as}
use Rattle.recovery.proofs.Laws.RollingCode.{roll_back, roll_settles}
use Rattle.recovery.proofs.rolling.roll_change.Goals as goal

pub returns-then-forward-kept : goal.returns-then-forward-kept
returns-then-forward-kept c =
    made_in_as _ _
    (roll_back _ c.requires c.current_of-current.ensures c.kept_of-kept.ensures _ c.if-forward-kept.true)
    c.bring_back.ensures

pub returns-else-forward-kept : goal.returns-else-forward-kept
returns-else-forward-kept c =
    made_in_as _ _
    (roll_settles _ c.requires c.current_of-current.ensures c.kept_of-kept.ensures _ c.if-forward-kept.false
    c.rolled-next.ensures)
    c.settle.ensures
