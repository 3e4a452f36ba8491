-- `read` meets its contract: a plan for each way out. Assumes nothing.
use native.Mathlib.Omega.{arith}
use Rattle.table.proofs.Laws.Answers.{meets_refused}
use Rattle.homes.proofs.Laws.Admission.{frame_admits}
use Rattle.homes.proofs.Laws.Plans.{meets_as}
use Rattle.homes.proofs.Laws.Ready.{ready_tells, plan_refused, plan_ready}
use Rattle.calls.proofs.read.read.Goals as goal

pub overflow_cast-node : goal.overflow_cast-node
overflow_cast-node c =
    let f = frame_admits _ _ _ _ _ (ready_tells _ _ c.in-Ok.ensures).admitted in
    omega (arith, f.place.node)

pub overflow_cast-item : goal.overflow_cast-item
overflow_cast-item c =
    let f = frame_admits _ _ _ _ _ (ready_tells _ _ c.in-Ok.ensures).admitted in
    omega (arith, f.place.item)

pub returns-in-Err : goal.returns-in-Err
returns-in-Err c = meets_refused _ _ (plan_refused _ _ _ c.in-Err.ensures)

pub returns-in-Ok : goal.returns-in-Ok
returns-in-Ok c = meets_as (plan_ready _ _ _ c.in-Ok.ensures) c.read_admitted.ensures
