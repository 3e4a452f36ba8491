-- `kinds_of` meets its contract: the loop has tested the items before `item`. Assumes nothing.
use mathlib.Core.Path.{refl}
use Rattle.counting.proofs.Laws.Counting.{every_none, every_next, every_ends}
use native.Mathlib.Omega.{arith}
use Rattle.std.proofs.lemmas.List.{get_or-take, length-take-le}
use Rattle.recovery.proofs.census.kinds_of.Goals as goal

pub loop-tally-init : goal.loop-tally-init
loop-tally-init c = (every_none _, every_none _)

pub loop-tally-preserved : goal.loop-tally-preserved
loop-tally-preserved c =
    let i = c.loop-tally.invariant in
    let n = length-take-le c.args.items c.args.tallies.now c.requires in
    let e = get_or-take c.args.items c.args.tallies.now c.loop-tally.tally-index 0 (omega arith) in
    (every_next _ _ i.0 (rw e refl), every_next _ _ i.1 (rw e at c.plain-plain.ensures))

pub returns : goal.returns
returns c =
    let i = c.loop-tally.invariant in
    let n = length-take-le c.args.items c.args.tallies.now c.requires in
    record {
      seen = every_ends _ (omega arith) (omega arith) i.0;
      plain = every_ends _ (omega arith) (omega arith) i.1;
    }
