-- `evict` meets its contract: a plan for each way out. Assumes nothing.
use native.Mathlib.Omega.{arith}
use borrow.Author.Rules.{rules}
use Rattle.table.proofs.Laws.Answers.{meets_refused, meets_done}
use Rattle.homes.proofs.Laws.EvictReady.{evict_refused, evict_there, drops_plan, goes_plan}
use Rattle.homes.proofs.evict.evict.Goals as goal
use Rattle.homes.proofs.evict.evict.Goals.{in-Drops, in-Goes}

pub overflow_cast-node : goal.overflow_cast-node
overflow_cast-node c = let a = evict_there _ _ _ _ c.in-Ok.ensures in omega (arith, a.node)

pub overflow_cast-item : goal.overflow_cast-item
overflow_cast-item c = let a = evict_there _ _ _ _ c.in-Ok.ensures in omega (arith, a.item)

pub returns-in-Err : goal.returns-in-Err
returns-in-Err c = meets_refused _ _ (evict_refused _ _ _ _ c.in-Err.ensures)

pub returns : goal.returns
returns c = elim c.match-way.branch [
  | in-Drops w ↦
      let p = drops_plan _ _ _ _ c.in-Ok.ensures w.in-Drops.is in
      let m = meets_done c.args.limit p w.drop_shared.ensures.stored in
      search rules
  | in-Goes w ↦
      let p = goes_plan _ _ _ _ c.in-Ok.ensures w.in-Goes.is in
      let m = meets_done c.args.limit p w.move_copy.ensures.stored in
      search rules
]
