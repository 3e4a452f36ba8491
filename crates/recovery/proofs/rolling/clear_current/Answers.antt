-- `clear_current` meets its contract: one state store, or nothing. Assumes nothing.
use Rattle.table.proofs.Laws.Made.{made_in_as, made_none}
use Rattle.recovery.proofs.Laws.RollingCode.{clear_stays}
use Rattle.recovery.proofs.rolling.clear_current.Goals as goal

pub returns-else-current-ne-INVALID : goal.returns-else-current-ne-INVALID
returns-else-current-ne-INVALID c = made_in_as _ _ (clear_stays _ _ c.if-current-ne-INVALID.false) (made_none _)
