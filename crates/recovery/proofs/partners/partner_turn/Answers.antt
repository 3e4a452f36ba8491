-- `partner_turn` meets its contract: no single copy, or the item's turn. Assumes nothing.
use native.Mathlib.Omega.{arith}
use Rattle.recovery.proofs.Laws.PartnersSkip.{turn_skipped}
use Rattle.recovery.proofs.partners.partner_turn.Goals as goal

pub returns-then-holders-gt1 : goal.returns-then-holders-gt1
returns-then-holders-gt1 c = turn_skipped c.args.lost c.requires (omega (arith, c.if-holders-gt1.true, c.holders-holders.ensures))
