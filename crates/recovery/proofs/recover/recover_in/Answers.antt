-- `recover_in` meets its contract: the census, then a refusal or the stores. Assumes nothing.
use mathlib.Core.Path.{refl}
use borrow.Author.Rules.{rules}
use native.Mathlib.Omega.{arith}
use Rattle.table.specs.View.{view}
use Rattle.survivors.specs.Survivors.{survivors}
use Rattle.recovery.proofs.Laws.SidesCode.{fits_chosen}
use Rattle.recovery.proofs.Laws.RecoverCode.{recover_turned, recover_admitted, recover_ready, recover_refused, recover_done}
use Rattle.recovery.proofs.recover.recover_in.Goals as goal

pub admit_recover-requires : goal.admit_recover-requires
admit_recover-requires c =
    let a = c.args in
    let k = c.take-census.ensures.taken in
    (k.formed, fits_chosen a.g (survivors a.lost (view a.g a.table.now)) c.forward_in-forward.ensures k.fit)

pub recover_stores-requires : goal.recover_stores-requires
recover_stores-requires c =
    let e = c.take-census.ensures in
    recover_ready _ _ _ c.admit_recover.ensures c.in_default.is c.requires.0 refl (omega (arith, e.size, c.requires.1.list_room)) c.forward_in-forward.ensures e.taken

pub returns-in-Err : goal.returns-in-Err
returns-in-Err c = recover_refused _ _ _ (recover_turned _ _ _ _ c.admit_recover.ensures c.in-Err.is)

pub returns : goal.returns
returns c = recover_done _ (recover_admitted _ _ _ _ c.admit_recover.ensures c.in_default.is) c.recover_stores.ensures (search rules)
