-- `roll_listed` meets its contract: the items before the list's next are passed. Assumes nothing.
use Rattle.table.proofs.Laws.Made.{made_none, made_with, made_more}
use Rattle.recovery.proofs.Laws.RollingCode.{listed_first, listed_state, listed_next, listed_all}
use Rattle.recovery.proofs.rolling.roll_listed.Goals as goal

pub loop-item-init : goal.loop-item-init
loop-item-init c = made_with (made_none _) (listed_first _ _ _ _ _ _)

pub roll_change-requires : goal.roll_change-requires
roll_change-requires c =
    let p = c.requires in
    let i = c.loop-item.invariant in
    rw i.same_geometry (listed_state _ _ _ p.0 _ i.stored p.1 c.loop-item-test.true)

pub loop-item-preserved : goal.loop-item-preserved
loop-item-preserved c =
    let i = c.loop-item.invariant in
    let d = c.roll_change.ensures in
    made_more i d (listed_next _ _ _ c.requires.0 _ i.stored c.loop-item-test.true (rw i.same_geometry at d.stored))

pub returns : goal.returns
returns c =
    let i = c.loop-item.invariant in
    made_with i (listed_all _ _ _ c.requires.0 _ i.stored c.loop-item.auto.item-index-end c.loop-item-test.false)
