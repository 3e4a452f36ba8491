-- `admit` meets its contract: a way of `admission_of` for each way out. Assumes nothing.
use borrow.Author.Tests.{le-leb, lt-leb, eq-eqb, ne_eqb}
use Rattle.homes.specs.Admission.{admission_of}
use Rattle.homes.proofs.admission.admit.Goals as goal

pub returns-then-nodes-node : goal.returns-then-nodes-node
unfolding admission_of
returns-then-nodes-node c = simp (le-leb _ _ c.if-nodes-node.true)

pub returns-then-items-item : goal.returns-then-items-item
unfolding admission_of
returns-then-items-item c = simp (lt-leb _ _ c.if-nodes-node.false, le-leb _ _ c.if-items-item.true)

pub returns-then-mark-eq0 : goal.returns-then-mark-eq0
unfolding admission_of
returns-then-mark-eq0 c = simp (lt-leb _ _ c.if-nodes-node.false, lt-leb _ _ c.if-items-item.false, ← c.mark_at-mark.ensures, eq-eqb _ _ c.if-mark-eq0.true)

pub returns-then-phase-eq1 : goal.returns-then-phase-eq1
unfolding admission_of
returns-then-phase-eq1 c = simp (lt-leb _ _ c.if-nodes-node.false, lt-leb _ _ c.if-items-item.false, ← c.mark_at-mark.ensures, ne_eqb _ _ c.if-mark-eq0.false, ← c.phase_of-phase.ensures, eq-eqb _ _ c.if-phase-eq1.true)

pub returns : goal.returns
unfolding admission_of
returns c = simp (lt-leb _ _ c.if-nodes-node.false, lt-leb _ _ c.if-items-item.false, ← c.mark_at-mark.ensures, ne_eqb _ _ c.if-mark-eq0.false, ← c.phase_of-phase.ensures, ne_eqb _ _ c.if-phase-eq1.false)
