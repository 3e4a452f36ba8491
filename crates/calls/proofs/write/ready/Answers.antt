-- `ready` meets its contract: a way of `ready_of` for each way out. Assumes nothing.
use Rattle.std.proofs.lemmas.Result.{err_from_is_err_and}
use Rattle.homes.proofs.Laws.Ready.{ready_failed, ready_turned, ready_admitted}
use Rattle.calls.proofs.write.ready.Goals as goal

pub returns-in_err-g : goal.returns-in_err-g
returns-in_err-g c =
    let e = err_from_is_err_and c.from_residual.result c.from_residual.ensures.1 in
    rw (e.1, e.2) (ready_failed _ _ c.in_err-g.ensures)

pub returns-in_err-admit_write : goal.returns-in_err-admit_write
returns-in_err-admit_write c =
    let r = c.from_residual-in_err-admit_write in
    let e = err_from_is_err_and r.result r.ensures.1 in
    rw (e.1, e.2) (ready_turned _ _ c.in_ok-g.ensures c.in_err-admit_write.ensures)

pub returns : goal.returns
returns c = ready_admitted _ _ c.in_ok-g.ensures c.in_ok-admit_write.ensures
