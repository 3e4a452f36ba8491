use Rattle.std.proofs.Common.{◌≡◌, ◌<◌, ℕ, Bool, false}
use Rattle.counting.proofs.Laws.Cyclic.{Searching}
use Rattle.counting.proofs.cyclic.first_after.Given as goal

abbrev pub invariant-loop-cursor : goal.invariant-loop-cursor
invariant-loop-cursor g l =
    Searching (λ _. false) l.nodes l.node l.cursor
    × ((test : ℕ → Bool) → ((k : ℕ) (r : Bool) → k < l.nodes → goal.F-post g l.passes k r → r ≡ test k) → Searching test l.nodes l.node l.cursor)

abbrev pub decreases-loop-cursor : goal.decreases-loop-cursor
decreases-loop-cursor g l = l.cursor.untried
