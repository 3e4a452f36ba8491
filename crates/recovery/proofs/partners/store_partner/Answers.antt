-- `store_partner` meets its contract: value, then state. Assumes nothing.
use Rattle.table.proofs.Laws.Made.{made_turn}
use Rattle.recovery.proofs.Laws.PartnersCode.{partner_made}
use Rattle.recovery.proofs.partners.store_partner.Goals as goal

pub returns : goal.returns
returns c =
    let a = c.store_value.ensures in
    made_turn a c.store_state.ensures
    (partner_made _ _ _ c.value_in-value.ensures c.state_in-state.ensures c.partner_code-code.ensures a.stored)
