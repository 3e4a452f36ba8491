-- "Roll forward if a survivor has phase 2, else roll back".
use Rattle.std.specs.Prelude.{ℕ, Bool, ◌&&◌, eqb}
use Rattle.counting.specs.Counting.{exists}
use Rattle.table.specs.declared.geometry.Geometry.{Geometry}
use Rattle.table.specs.Words.{phase_of}
use Rattle.table.specs.View.{View, live}

-- node n is committing: it has phase 2
abbrev pub committing : View → ℕ → Bool
committing w n = live w n && eqb (phase_of (w.mark n)) 2

-- w is the view of the survivors
unfoldable pub forward_in : Geometry → View → Bool
forward_in g w = exists (committing w) g.nodes
