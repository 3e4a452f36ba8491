-- `partner_item` meets its contract: the holder's copy gets its partner. Assumes nothing.
use Rattle.recovery.proofs.Laws.PartnersCode.{item_single, item_none}
use Rattle.recovery.proofs.partners.partner_item.Goals as goal

pub returns-then-holder-stores : goal.returns-then-holder-stores
returns-then-holder-stores c = item_single c.args.lost c.requires.1.1 c.partner_from.ensures

pub returns-else-holder-stores : goal.returns-else-holder-stores
returns-else-holder-stores c = item_none c.args.lost c.requires.1.1 c.if-holder-stores.false c.requires.0.counts
