-- `run_calls` meets its contract: the loop has carried out the calls before `i`. Assumes nothing.
use Rattle.restore.proofs.Laws.RehearseCode.{ran_none, ran_next, scratch_none, scratch_next, ran_end}
use borrow.Author.Rules.{rules}
use Rattle.restore.proofs.rehearse.run_calls.Goals as goal

pub loop-i-init : goal.loop-i-init
loop-i-init c = (search rules, (search rules, (ran_none _ _ _, scratch_none _ _ _ _)))

pub loop-i-preserved : goal.loop-i-preserved
loop-i-preserved c =
    let v = c.loop-i.invariant in (
      search rules,
      (
        search rules,
        (
          ran_next _ _ _ v.0 v.1.1.0 c.call_at-call.ensures c.carry_out.ensures,
          scratch_next _ _ _ v.0 v.1.1.0 c.call_at-call.ensures c.carry_out.ensures _ v.1.1.1,
        ),
      ),
    )

pub returns : goal.returns
returns c = ran_end _ _ _ c.loop-i.auto.i-end c.loop-i-test.false c.loop-i.invariant.1.1.0 c.loop-i.invariant.1.1.1
