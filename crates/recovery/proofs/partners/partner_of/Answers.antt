-- `partner_of` meets its contract: the first after the node that can take the partner. Assumes nothing.
use borrow.Author.Rules.{rules}
use Rattle.recovery.specs.code.PartnersCode.{partner_by}
use Rattle.recovery.proofs.partners.partner_of.Goals as goal

pub returns : goal.returns
unfolding partner_by
returns c = c.first_after.ensures _ (λ k r l e. search rules)
