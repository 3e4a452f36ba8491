-- What Read, Write and Evict ask of a node and an item: "4; 5 item ≥ M; 6 node dead; 7 checkpoint open (phase 1)"; and of a frame: "9".
use Rattle.std.specs.Prelude.{ℕ, Bool, cond, ◌&&◌, not, leb, eqb, List, Err, Ok, Result}
use Rattle.table.specs.declared.geometry.Geometry.{Geometry}
use Rattle.table.specs.declared.answers.Refusal.{Refusal}
use Rattle.table.specs.declared.answers.Refusal.TheVariants.{NoNode, NoItem, DeadNode, CheckpointOpen, NoFrame}
use Rattle.table.specs.Words.{phase_of}
use Rattle.table.specs.View.{View, view}
use Rattle.entries.specs.Frames.{frame_free}
use Rattle.table.specs.Answers.{Plan, refuse}
use Rattle.entries.specs.Check.{fault_of}

-- a call is admitted, or turned down
abbrev pub Admission : Type 0
Admission = Result (Unit {0}) Refusal

unfoldable pub admission_of : Geometry → View → ℕ → ℕ → Admission
admission_of g v n b =
    cond (leb g.nodes n) (Err NoNode)
    (cond (leb g.items b) (Err NoItem)
    (cond (eqb (v.mark n) 0) (Err DeadNode)
    (cond (eqb (phase_of (v.mark n)) 1) (Err CheckpointOpen)
    (Ok tt))))

-- "9 frame needed and none free": in the set of the item
unfoldable pub frame_full : Geometry → View → ℕ → ℕ → Bool → Bool
frame_full g v n b needed = needed && not (frame_free g v n b)

unfoldable pub frame_admission : Geometry → View → ℕ → ℕ → Bool → Admission → Admission
frame_admission g v n b needed (Err x) = Err x
frame_admission g v n b needed (Ok _) = cond (frame_full g v n b needed) (Err NoFrame) (Ok tt)

-- ---- the common shape of a call's plan: the table checks; the call's own refusals, in their order; then what it does

unfoldable pub plan_admitted : Admission → Plan → Plan
plan_admitted (Err r) p = refuse r
plan_admitted (Ok _) p = p

unfoldable pub plan_checked : (Geometry → View → Admission) → (Geometry → View → Plan) → List ℕ → Result Geometry Refusal → Plan
plan_checked admits acts t (Err r) = refuse r
plan_checked admits acts t (Ok g) = plan_admitted (admits g (view g t)) (acts g (view g t))

-- by what a call admits and what it then does, both of the view of the table at entry
unfoldable pub plan_by : (Geometry → View → Admission) → (Geometry → View → Plan) → List ℕ → Plan
plan_by admits acts t = plan_checked admits acts t (fault_of t)
