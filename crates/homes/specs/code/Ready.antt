-- What a call finds before its first store: the table checks, then its own refusals.
use Rattle.std.specs.Prelude.{ℕ, List, Result, Ok, Err}
use Rattle.table.specs.declared.geometry.Geometry.{Geometry}
use Rattle.table.specs.declared.answers.Refusal.{Refusal}
use Rattle.table.specs.View.{View, view}
use Rattle.entries.specs.Check.{fault_of}
use Rattle.homes.specs.Admission.{Admission}

unfoldable pub ready_by : Geometry → Admission → Result Geometry Refusal
ready_by g (Err x) = Err x
ready_by g (Ok _) = Ok g

unfoldable pub ready_checked : (Geometry → View → Admission) → List ℕ → Result Geometry Refusal → Result Geometry Refusal
ready_checked admits t (Err x) = Err x
ready_checked admits t (Ok g) = ready_by g (admits g (view g t))

-- by what a call admits: the geometry of a table on which it acts
unfoldable pub ready_of : (Geometry → View → Admission) → List ℕ → Result Geometry Refusal
ready_of admits t = ready_checked admits t (fault_of t)
