use Rattle.recovery.specs.Numbering.{partner_stores, staged}
use Rattle.recovery.specs.code.PartnersCode.{Turned}
use Rattle.recovery.proofs.partners.partner_items.Given as goal

abbrev pub invariant-loop-item : goal.invariant-loop-item
invariant-loop-item l =
    let s = l.initial.stores in
    Turned l.lost (staged (partner_stores s.g) l.item) s l.stores l.initial.scratch l.scratch
