-- `write` meets its contract: a plan for each way out. Assumes nothing.
use mathlib.Core.Path.{◌≡◌, sym}
use native.Mathlib.Omega.{arith}
use borrow.Author.Rules.{rules}
use Rattle.table.proofs.Laws.Answers.{meets_refused, meets_done}
use Rattle.entries.proofs.Laws.CheckFacts.{accepted_facts}
use Rattle.homes.proofs.Laws.Admission.{frame_admits}
use Rattle.homes.proofs.Laws.Ready.{ready_tells, plan_refused, plan_ready}
use Rattle.calls.specs.Write.{write_of}
use Rattle.calls.proofs.write.write.Goals as goal

pub overflow_cast-node : goal.overflow_cast-node
overflow_cast-node c =
    let f = frame_admits _ _ _ _ _ (ready_tells _ _ c.in-Ok.ensures).admitted in
    omega (arith, f.place.node)

pub overflow_cast-item : goal.overflow_cast-item
overflow_cast-item c =
    let f = frame_admits _ _ _ _ _ (ready_tells _ _ c.in-Ok.ensures).admitted in
    omega (arith, f.place.item)

pub write_stores-requires : goal.write_stores-requires
write_stores-requires c =
    let r = ready_tells _ _ c.in-Ok.ensures in
    ((frame_admits _ _ _ _ _ r.admitted).place.item, (accepted_facts _ _ (sym r.passed)).shape.long)

pub returns-in-Err : goal.returns-in-Err
returns-in-Err c = meets_refused _ _ (plan_refused _ _ _ c.in-Err.ensures)

pub returns-in-Ok : goal.returns-in-Ok
returns-in-Ok c =
    let a = c.args in
    let p : write_of a.table.now a.node a.item a.value ≡ _ = plan_ready _ _ _ c.in-Ok.ensures in
    let m = meets_done a.limit p c.write_stores.ensures.stored in
    search rules
