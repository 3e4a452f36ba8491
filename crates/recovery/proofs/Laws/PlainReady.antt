-- A table of plain entries is as ready as the one that was rolled.
use Prim.Native.Nat.{ℕ}
use Rattle.table.specs.declared.geometry.Geometry.{Geometry}
use Rattle.table.specs.View.{View}
use Rattle.survivors.specs.Direction.{forward_in}
use Rattle.recovery.proofs.Laws.Ready.{Ready, Going, Plain}
use Rattle.recovery.proofs.Laws.SameMarks.{same_going}
use Rattle.recovery.proofs.Laws.PlainSides.{plain_sided}

pub plain_ready : (g : Geometry) (saved : ℕ → ℕ) (number : ℕ) (w u : View) → Ready g saved number w → Plain g saved w u → Going g saved number w u
plain_ready g saved number w u r p =
    same_going g w u p.marks saved number r (λ n b l h. (p.entries n b l h).form) p.frames
    (plain_sided g saved u p.entries p.there (forward_in g w))
