-- `partner_items` meets its contract: the items before `item` have had their turns. Assumes nothing.
use Rattle.recovery.proofs.Laws.PartnersCode.{items_start, items_turn, items_end}
use Rattle.recovery.proofs.Laws.PartnersSkip.{turn_ready}
use Rattle.recovery.proofs.partners.partner_items.Goals as goal

pub loop-item-init : goal.loop-item-init
loop-item-init c = items_start _ c.requires.0.counts

pub partner_turn-requires : goal.partner_turn-requires
partner_turn-requires c =
    turn_ready c.args.lost _ c.requires.0 c.loop-item-test.true c.requires.1 c.word-tally.ensures c.loop-item.invariant

pub loop-item-preserved : goal.loop-item-preserved
loop-item-preserved c = items_turn _ _ c.loop-item.invariant c.requires.0.long c.loop-item-test.true c.partner_turn.ensures

pub returns : goal.returns
returns c = items_end _ _ c.loop-item.invariant c.loop-item.auto.item-end c.loop-item-test.false
