-- `kept_after` meets its contract. Assumes nothing.
use borrow.Author.Tests.{eq-eqb, ne_eqb}
use Rattle.calls.specs.Write.{kept_after}
use Rattle.calls.proofs.write.kept_after.Goals as goal

pub returns-then-own-eq0 : goal.returns-then-own-eq0
unfolding kept_after
returns-then-own-eq0 c = simp (← c.current_of.ensures, ← c.checkpoint_of-own.ensures, eq-eqb _ _ c.if-own-eq0.true, ← c.kept_of.ensures)

pub returns-else-own-eq0 : goal.returns-else-own-eq0
unfolding kept_after
returns-else-own-eq0 c = simp (← c.current_of.ensures, ← c.checkpoint_of-own.ensures, ne_eqb _ _ c.if-own-eq0.false)
