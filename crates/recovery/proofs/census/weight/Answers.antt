-- `weight` meets its contract: the tables are the weights of 0 to 63. Assumes nothing.
use Rattle.std.proofs.Common.{true, false, arith}
use Rattle.std.proofs.lemmas.List.FromFn.{get_or-map-range_with_len}
use Rattle.table.specs.Changes.{change_of}
use Rattle.entries.specs.code.Survey.{codes_form}
use Rattle.entries.specs.code.Row.{top_of}
use Rattle.recovery.specs.code.Census.{side_bits}
use Rattle.recovery.proofs.census.weight.Goals as goal

pub returns-then-forward : goal.returns-then-forward
unfolding side_bits codes_form change_of
returns-then-forward c =
    let t = top_of c.args.state in
    rw c.if-forward.true (get_or-map-range_with_len (side_bits true) 0 64 t t 0 (omega (arith, c.ranges.state.fits)) (omega arith))

pub returns : goal.returns
unfolding side_bits codes_form change_of
returns c =
    let t = top_of c.args.state in
    rw c.if-forward.false (get_or-map-range_with_len (side_bits false) 0 64 t t 0 (omega (arith, c.ranges.state.fits)) (omega arith))
