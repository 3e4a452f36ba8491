-- `run_records` meets its contract: the loop has run the records before `i`. Assumes nothing.
use Rattle.std.proofs.Common.{rules}
use Rattle.steps.proofs.Laws.Run.{count_is, run_none, run_room, run_next, run_end}
use Rattle.steps.proofs.run.run_records.Goals as goal

pub loop-i-init : goal.loop-i-init
loop-i-init c = (search rules, (search rules, run_none _ _ _ c.requires.0 c.requires.1))

pub run_step-ran-requires : goal.run_step-ran-requires
run_step-ran-requires c = run_room _ _ _ c.requires.0 c.requires.1 c.loop-i.invariant.1.1 (count_is _ c.div_ceil-i-end.ensures) c.loop-i-test.true

pub loop-i-preserved : goal.loop-i-preserved
loop-i-preserved c = (search rules, (search rules, run_next _ _ _ c.requires.0 c.requires.1 c.loop-i.invariant.1.1 (count_is _ c.div_ceil-i-end.ensures) c.loop-i-test.true c.record-step.ensures c.run_step-ran.ensures))

pub returns : goal.returns
returns c = run_end _ _ _ c.requires.0 c.requires.1 c.loop-i.invariant.1.1 (count_is _ c.div_ceil-i-end.ensures) c.loop-i.auto.i-end c.loop-i-test.false
