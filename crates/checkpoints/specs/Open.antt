-- Open: "phase 1 on each live mark, ascending."
use Rattle.std.specs.Prelude.{ℕ, ◌-◌, ◌^◌, cond, List, eqb, Err, Ok}
use Rattle.table.specs.declared.geometry.Geometry.{Geometry}
use Rattle.table.specs.declared.answers.Refusal.TheVariants.{CheckpointOpen, LastNumber}
use Rattle.table.specs.Words.{number_of, mark_word}
use Rattle.table.specs.Stores.{Store}
use Rattle.table.specs.View.{View, marks_to}
use Rattle.table.specs.Answers.{Plan, carry}
use Rattle.homes.specs.Admission.{Admission, plan_by}
use Rattle.checkpoints.specs.Checkpoint.{common_mark, is_open}

-- ---- the stores

-- "phase 1", the number as it was
abbrev pub creating_mark : ℕ → ℕ
creating_mark w = mark_word 1 (number_of w)

abbrev pub open_stores : Geometry → View → List Store
open_stores g v = marks_to g v creating_mark

-- ---- the refusals

-- "7; 13 number is 2^32 − 1"
unfoldable pub start_admission : Geometry → View → Admission
start_admission g v =
    cond (is_open g v) (Err CheckpointOpen)
    (cond (eqb (number_of (common_mark g v)) (2 ^ 32 - 1)) (Err LastNumber)
    (Ok tt))

-- ---- the plan

abbrev pub open_of : List ℕ → Plan
open_of t = plan_by start_admission (λ g v. carry g 0 (open_stores g v)) t
