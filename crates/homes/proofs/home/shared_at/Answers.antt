-- `shared_at` meets its contract: as its current place says. Assumes nothing.
use mathlib.Core.Path.{ap, ◌∙◌}
use lib.Dec.{eqb}
use Rattle.table.specs.Words.{current_of, shared}
use Rattle.homes.specs.Home.{shared_at}
use Rattle.homes.proofs.home.shared_at.Goals as goal

pub returns : goal.returns
unfolding shared_at
returns c = ap (λ k. eqb k shared) (c.current_of.ensures ∙ ap current_of c.state_at.ensures)
