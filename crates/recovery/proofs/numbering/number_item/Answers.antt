-- `number_item` meets its contract: a turn finds its entry as it was at the start, and has counted the lower holders.
-- Assumes nothing.
use Rattle.table.proofs.Laws.Made.{made_starts, made_more, made_ends}
use Rattle.recovery.proofs.Laws.NumberingCode.{holders_start, holders_turn, code_found, number_turn}
use Rattle.recovery.proofs.numbering.number_item.Goals as goal

pub loop-node-init : goal.loop-node-init
loop-node-init c = (made_starts _ _, holders_start _ _ c.default-lower.ensures)

pub loop-node-preserved : goal.loop-node-preserved
loop-node-preserved c =
    let lost = c.args.lost in
    let p = c.requires in
    let i = c.loop-node.invariant in
    let m = i.0 in
    let n = c.loop-node-test.true in
    let d = c.number_entry.ensures in
    let stored = rw m.same_geometry at d.stored in
    let code = rw m.same_geometry at c.survivor_code-current.ensures in (
      made_more m d (number_turn _ lost _ _ n p.0 p.1 m.stored code i.1 c.holders_of-all.ensures stored),
      holders_turn _ _ _ i.1 (code_found _ lost _ _ n p.0 p.1 m.stored code) c.met-lower.ensures,
    )

pub returns : goal.returns
returns c = let i = c.loop-node.invariant in made_ends _ _ _ c.loop-node.auto.node-end c.loop-node-test.false i.0
