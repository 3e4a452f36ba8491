-- `bit_at` meets its contract. Assumes nothing.
use Rattle.std.proofs.Common.{sym, refl, arith}
use Rattle.counting.specs.Bits.{bit_at}
use Rattle.counting.proofs.Laws.Bits.{bit_over}
use Rattle.counting.proofs.bits.bit_at.Goals as goal

pub returns-then-k-gt63 : goal.returns-then-k-gt63
returns-then-k-gt63 c = sym (bit_over 64 c.args.mask c.args.k (omega arith) (omega (arith, c.if-k-gt63.true)))

pub returns : goal.returns
unfolding bit_at
returns c = refl
