-- `partner_from` meets its contract: no partner, or its stores and its frames. Assumes nothing.
use Rattle.recovery.proofs.Laws.PartnersCode.{found_there, found_room, found_few, from_none, from_made}
use Rattle.recovery.proofs.partners.partner_from.Goals as goal

pub returns-then-partner-node : goal.returns-then-partner-node
returns-then-partner-node c = from_none _ _ _ c.requires.0 c.partner_of-partner.ensures c.if-partner-node.true

pub used_after-used-requires : goal.used_after-used-requires
used_after-used-requires c =
    let p = c.partner_of-partner.ensures in
    let d = c.if-partner-node.false in
    ((found_there _ _ _ _ _ p d, (c.requires.1.1, c.requires.0.long)), found_few _ _ _ _ _ p d)

pub bounds-scratch-partner : goal.bounds-scratch-partner
bounds-scratch-partner c = found_room _ _ _ _ _ c.partner_of-partner.ensures c.if-partner-node.false c.requires.0.room

pub returns : goal.returns
returns c =
    from_made _ _ _ c.requires.0 c.partner_of-partner.ensures c.requires.1.1
    c.if-partner-node.false c.used_after-used.ensures c.store_partner.ensures
