use Rattle.table.specs.Made.{Made, shown}
use Rattle.recovery.specs.code.Rows.{reached}
use Rattle.recovery.proofs.Laws.RollingCode.{rolled_to}
use Rattle.recovery.proofs.rolling.roll_listed.Given as goal

abbrev pub invariant-loop-item : goal.invariant-loop-item
invariant-loop-item l =
    let s = l.initial.stores in
    Made s (rolled_to s.g l.node l.forward (shown s) (reached l.occupied l.item-index)) l.stores
