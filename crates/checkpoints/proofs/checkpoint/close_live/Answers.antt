-- `close_live` meets its contract: a turn finds its entry as it was at the start. Assumes nothing.
use native.Mathlib.Omega.{arith}
use Rattle.table.proofs.Laws.Made.{made_starts, made_more, made_ends}
use Rattle.checkpoints.proofs.Laws.Checkpoint.{made_lies, lies_within, lies_state, live_turn}
use Rattle.checkpoints.proofs.checkpoint.close_live.Goals as goal

pub loop-item-init : goal.loop-item-init
loop-item-init g c = made_starts _ _

pub bounds-stores-start : goal.bounds-stores-start
bounds-stores-start g c =
    let p = c.requires in
    let l = made_lies c.loop-item.invariant p.0 p.1 c.entry_at-start.ensures.at _ c.loop-item-test.true in
    omega (arith, lies_within l)

pub close_entry-requires : goal.close_entry-requires
close_entry-requires g c =
    let p = c.requires in
    lies_state (made_lies c.loop-item.invariant p.0 p.1 c.entry_at-start.ensures.at _ c.loop-item-test.true)

pub loop-item-preserved : goal.loop-item-preserved
loop-item-preserved g c =
    let p = c.requires in
    let i = c.loop-item.invariant in
    let d = c.close_entry.ensures in
    made_more i d
    (live_turn g.W.Closing.change _ _ _ p.1 p.0 c.loop-item-test.true i.stored (rw i.same_geometry at d.stored))

pub returns : goal.returns
returns g c = made_ends _ _ _ c.loop-item.auto.item-end c.loop-item-test.false c.loop-item.invariant
