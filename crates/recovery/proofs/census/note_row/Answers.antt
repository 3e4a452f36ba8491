-- `note_row` meets its contract: the items before the list's next are passed, in any geometry that has this row, for the loop itself has none. Assumes nothing.
use Rattle.recovery.proofs.Laws.CensusLaws.{row_lists, passed_start, passed_turn, passed_all}
use borrow.Author.Rules.{rules}
use Rattle.recovery.proofs.census.note_row.Goals as goal

pub loop-item-init : goal.loop-item-init
loop-item-init c = λ g w. passed_start _ _ _ _ _ _

pub loop-item-preserved : goal.loop-item-preserved
loop-item-preserved c = λ g w. passed_turn g c.args.forward c.args.node c.args.table.now w _ (c.loop-item.invariant g w) c.step-step.ensures c.loop-item-test.true c.note_entry-note.ensures

pub returns : goal.returns
returns c =
    let w = row_lists c.args.g c.args.node c.args.table.now c.requires c.entry_at-start.ensures c.occupied-occupied.ensures in
    passed_all c.args.g c.args.forward c.args.node c.args.table.now w _ (c.loop-item.invariant c.args.g w) c.requires.sized c.loop-item.auto.item-index-end c.loop-item-test.false (search rules)
