-- `number` meets its contract: a turn finds its item's row as it was at the start. Assumes nothing.
use mathlib.Core.Path.{refl}
use Rattle.table.proofs.Laws.Made.{made_none, made_with, made_more}
use Rattle.recovery.proofs.Laws.NumberingCode.{numbers_start, numbers_ready, numbers_turn, numbers_end}
use borrow.Author.Rules.{rules}
use Rattle.recovery.proofs.numbering.number.Goals as goal

pub loop-item-init : goal.loop-item-init
loop-item-init c = made_with (made_none _) (numbers_start _ _ _ _)

pub number_turn-requires : goal.number_turn-requires
number_turn-requires c =
    let i = c.loop-item.invariant in
    rw i.same_geometry
    (numbers_ready _ c.args.lost _ c.loop-item-test.true c.requires.long i.stored (search rules) c.requires refl)

pub loop-item-preserved : goal.loop-item-preserved
loop-item-preserved c =
    let i = c.loop-item.invariant in
    let d = c.number_turn.ensures in
    made_more i d
    (numbers_turn _ c.args.lost _ c.loop-item-test.true c.requires.long i.stored (rw i.same_geometry at d.stored))

pub returns : goal.returns
returns c =
    let i = c.loop-item.invariant in
    made_with i (numbers_end _ _ _ c.loop-item.auto.item-end c.loop-item-test.false i.stored)
