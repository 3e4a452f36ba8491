-- `admit_read` meets its contract: the refusals in their order. Assumes nothing.
use mathlib.Core.Path.{sym}
use Rattle.std.proofs.lemmas.Result.{err_from_is_err_and}
use native.Mathlib.Omega.{arith}
use Rattle.homes.proofs.Laws.Admission.{admission_tells, frame_turned, frame_none, frame_free_lem}
use Rattle.calls.proofs.Laws.ReadCode.{fetch_full}
use Rattle.calls.proofs.read.admit_read.Goals as goal

pub overflow_cast-n : goal.overflow_cast-n
overflow_cast-n c = let a = admission_tells _ _ _ _ (sym c.in_ok-admit.ensures) in omega (arith, a.node)

pub overflow_cast-b : goal.overflow_cast-b
overflow_cast-b c = let a = admission_tells _ _ _ _ (sym c.in_ok-admit.ensures) in omega (arith, a.item)

pub returns-in_err-admit : goal.returns-in_err-admit
returns-in_err-admit c =
    let e = err_from_is_err_and c.from_residual.result c.from_residual.ensures.1 in
    rw (e.1, e.2) (frame_turned _ _ _ _ _ c.in_err-admit.ensures)

pub returns-then-frame_full : goal.returns-then-frame_full
returns-then-frame_full c =
    let full = fetch_full _ _ _ _ c.state_at.ensures c.current_of-current.ensures c.frame_full.ensures in
    frame_none _ _ _ _ _ c.in_ok-admit.ensures full c.if-frame_full.true

pub returns : goal.returns
returns c =
    let full = fetch_full _ _ _ _ c.state_at.ensures c.current_of-current.ensures c.frame_full.ensures in
    frame_free_lem _ _ _ _ _ c.in_ok-admit.ensures full c.if-frame_full.false
