-- `lowest` meets its contract. Assumes nothing.
use Rattle.std.proofs.Common.{refl, arith}
use lib.Count.{trailing_le}
use Rattle.counting.specs.Bits.{lowest_bit}
use Rattle.counting.proofs.bits.lowest.Goals as goal

pub overflow_cast-result : goal.overflow_cast-result
overflow_cast-result c = record { fits = omega (arith, trailing_le 64 c.args.mask) }

pub returns : goal.returns
unfolding lowest_bit
returns c = refl
