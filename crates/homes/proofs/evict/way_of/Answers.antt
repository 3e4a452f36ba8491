-- `way_of` meets its contract: turned down, or the place decides. Assumes nothing.
use mathlib.Core.Path.{sym}
use borrow.Author.Rules.{rules}
use native.Mathlib.Omega.{arith}
use Rattle.homes.proofs.Laws.Admission.{admission_tells}
use Rattle.homes.proofs.Laws.EvictCode.{way_turned, way_admitted_lem}
use Rattle.homes.proofs.evict.way_of.Goals as goal

pub overflow_cast-node : goal.overflow_cast-node
overflow_cast-node c = let a = admission_tells _ _ _ _ (sym c.in_ok-admit.ensures) in omega (arith, a.node)

pub overflow_cast-item : goal.overflow_cast-item
overflow_cast-item c = let a = admission_tells _ _ _ _ (sym c.in_ok-admit.ensures) in omega (arith, a.item)

pub way_admitted-requires : goal.way_admitted-requires
way_admitted-requires c = (admission_tells _ _ _ _ (sym c.in_ok-admit.ensures)).node

pub returns-in_err-admit : goal.returns-in_err-admit
returns-in_err-admit c = search (rules, way_turned)

pub returns : goal.returns
returns c = way_admitted_lem _ _ _ _ _ c.in_ok-admit.ensures c.way_admitted.ensures
