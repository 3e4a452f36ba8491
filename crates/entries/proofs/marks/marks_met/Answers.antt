-- `marks::marks_met` meets its contract: the loop has met the marks before `node`. Assumes nothing.
use mathlib.Core.Path.{◌≡◌}
use mathlib.Core.Bool.{cond}
use lib.Dec.{eqb}
use borrow.Author.Tests.{eq-eqb, ne_eqb}
use Rattle.entries.proofs.Laws.MarksLoop.{marking_none, marking_next, marking_fails, marking_all}
use Rattle.entries.proofs.marks.marks_met.Goals as goal
use Rattle.entries.proofs.marks.marks_met.Goals.{Joined-first-eq0, then-first-eq0, else-first-eq0}

first_mark : (c : Joined-first-eq0) → c.if-first-eq0.first ≡ cond (eqb c.loop-node.first 0) c.mark_at-mark.result c.loop-node.first
first_mark c = elim c.if-first-eq0.branch [
  | then-first-eq0 w ↦ rw (eq-eqb _ _ w.if-first-eq0.true) w.first-is
  | else-first-eq0 w ↦ rw (ne_eqb _ _ w.if-first-eq0.false) w.first-is
]

pub loop-node-init : goal.loop-node-init
loop-node-init c = marking_none _

pub returns-then-mark-first : goal.returns-then-mark-first
returns-then-mark-first c =
    let k = first_mark (goal.at.returns-then-mark-first c).Joined-first-eq0 in
    marking_fails _ _ _ c.loop-node.invariant _ c.mark_at-mark.ensures _ k c.loop-node-test.true c.if-mark-first.true

pub loop-node-preserved : goal.loop-node-preserved
loop-node-preserved c =
    let k = first_mark (goal.at.loop-node-preserved c).Joined-first-eq0 in
    marking_next _ _ _ c.loop-node.invariant _ c.mark_at-mark.ensures _ k c.if-mark-first.false

pub returns : goal.returns
returns c = marking_all _ _ _ _ c.loop-node.invariant c.loop-node.auto.node-end c.loop-node-test.false
