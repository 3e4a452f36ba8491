-- `ready` meets its contract: a way of `ready_of` for each way out. Assumes nothing.
use mathlib.Core.Path.{refl}
use Rattle.std.proofs.lemmas.Result.{err_from_is_err_and}
use Rattle.entries.proofs.Laws.Check.{refused_failed, sound_passed}
use Rattle.homes.proofs.Laws.Ready.{ready_failed, ready_turned, ready_admitted}
use Rattle.checkpoints.proofs.commit.ready.Goals as goal

pub returns-in_err-g : goal.returns-in_err-g
returns-in_err-g c =
    let e = err_from_is_err_and c.from_residual.result c.from_residual.ensures.1 in
    rw (e.1, e.2) (ready_failed _ _ (refused_failed _ c.in_err-g.ensures refl))

pub admit_commit-requires : goal.admit_commit-requires
admit_commit-requires c = (sound_passed _ c.in_ok-g.ensures refl).1

pub returns-in_err-admit_commit : goal.returns-in_err-admit_commit
returns-in_err-admit_commit c =
    let r = c.from_residual-in_err-admit_commit in
    let e = err_from_is_err_and r.result r.ensures.1 in
    rw (e.1, e.2) (ready_turned _ _ (sound_passed _ c.in_ok-g.ensures refl).0 c.in_err-admit_commit.ensures)

pub returns : goal.returns
returns c = ready_admitted _ _ (sound_passed _ c.in_ok-g.ensures refl).0 c.in_ok-admit_commit.ensures
