-- `run_step` meets its contract: the step served, and its line put. Assumes nothing.
use Rattle.std.proofs.Common.{arith}
use Rattle.steps.proofs.Laws.Lines.{line_count, put_counts}
use Rattle.steps.proofs.Laws.Run.{step_run}
use Rattle.steps.proofs.run.run_step.Goals as goal

pub slice_bounds-text-end : goal.slice_bounds-text-end
slice_bounds-text-end c = (put_counts c.line-n.ensures).0

pub slice_bounds-put-end : goal.slice_bounds-put-end
slice_bounds-put-end c = (put_counts c.line-n.ensures).1

pub put-to-requires : goal.put-to-requires
put-to-requires c =
    let l = c.line-n in
    omega (arith, (put_counts l.ensures).1, line_count _ _ l.ensures)

pub returns : goal.returns
returns c = step_run _ c.serve-served.ensures c.line-n.ensures c.put-to.ensures
