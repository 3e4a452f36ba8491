-- `change_by` meets its contract: kept, as it was, or changed. Assumes nothing.
use Rattle.table.proofs.Laws.Made.{made_in_as, made_none}
use Rattle.calls.proofs.Laws.Transitions.{by_keep, by_none, by_state}
use Rattle.calls.proofs.transitions.change_by.Goals as goal

pub returns-then-next-eq-KEEP : goal.returns-then-next-eq-KEEP
returns-then-next-eq-KEEP c =
    made_in_as _ _
    (by_keep _ _ c.state-state.ensures c.current_of-current.ensures c.change-next.ensures c.if-next-eq-KEEP.true
    c.value-value.ensures c.checkpoint_of-number.ensures)
    c.keep_copy.ensures

pub returns-else-next-current : goal.returns-else-next-current
returns-else-next-current c =
    made_in_as _ _
    (by_none _ _ c.state-state.ensures c.current_of-current.ensures c.change-next.ensures c.if-next-eq-KEEP.false
    c.if-next-current.false)
    (made_none _)

pub returns-then-next-current : goal.returns-then-next-current
returns-then-next-current c =
    made_in_as _ _
    (by_state _ _ c.state-state.ensures c.current_of-current.ensures c.change-next.ensures c.if-next-eq-KEEP.false
    c.if-next-current.true c.kept_of-kept.ensures)
    c.store_state.ensures
