-- `clear_lowest` meets its contract. Assumes nothing.
use Rattle.std.proofs.Common.{sym, refl, ap}
use Rattle.counting.specs.Bits.{clear_lowest}
use Rattle.counting.proofs.bits.clear_lowest.Goals as goal

pub returns-then-mask-eq0 : goal.returns-then-mask-eq0
unfolding clear_lowest
returns-then-mask-eq0 c = ap clear_lowest (sym c.if-mask-eq0.true)

pub returns : goal.returns
unfolding clear_lowest
returns c = refl
