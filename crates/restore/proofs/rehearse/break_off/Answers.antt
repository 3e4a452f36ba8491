-- `break_off` meets its contract: the loop has broken off the recoveries of the limits before. Assumes nothing.
use mathlib.Core.Path.{refl}
use Rattle.restore.proofs.Laws.RehearseCode.{broken_none, broken_next, scratch_whole, scratch_broken_lem, broken_end}
use borrow.Author.Rules.{rules}
use Rattle.restore.proofs.rehearse.break_off.Goals as goal

pub loop-limit-init : goal.loop-limit-init
loop-limit-init c = (search rules, (search rules, (broken_none _ _ _ _, scratch_whole _ _ _ _ _)))

pub loop-limit-preserved : goal.loop-limit-preserved
loop-limit-preserved c =
    let v = c.loop-limit.invariant in (
      search rules,
      (
        search rules,
        (
          broken_next _ _ _ _ (search rules) v.0 refl c.recover.ensures v.1.1.0,
          scratch_broken_lem _ _ _ _ (search rules) v.0 refl c.recover.ensures _ v.1.1.1,
        ),
      ),
    )

pub returns : goal.returns
returns c = broken_end _ _ _ _ c.loop-limit.auto.limit-index-end c.loop-limit-test.false c.loop-limit.invariant.1.1.0 c.loop-limit.invariant.1.1.1
