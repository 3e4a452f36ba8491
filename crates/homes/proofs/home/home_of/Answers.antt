-- `home_of` meets its contract: the first after the node that can take the copy. Assumes nothing.
use borrow.Author.Rules.{rules}
use Rattle.homes.specs.Home.{home_of}
use Rattle.homes.proofs.home.home_of.Goals as goal

pub returns : goal.returns
unfolding home_of
returns c = c.first_after.ensures _ (λ k r l e. search rules)
