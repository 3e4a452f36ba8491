-- A call carried out on the whole table, or on an empty one.
use Rattle.std.specs.Prelude.{◌≡◌, ℕ, Bool, true, false, cond, List, [], length}
use Rattle.table.specs.declared.answers.Answer.{Answer}
use Rattle.table.specs.declared.answers.Answer.TheVariants.{Done, NothingLeft, Refused}
use Rattle.table.specs.Answers.{Plan, answer_of}
use Rattle.restore.specs.declared.call.Call.{Call}
use Rattle.restore.specs.Call.{plan_of, scratch_by}
use Rattle.restore.specs.Run.{store_count, whole_table}

abbrev pub is_done : Answer → Bool
is_done (Done value stores) = true
is_done NothingLeft = false
is_done (Refused x) = false

-- the plan of a call on what it is lent
abbrev pub plan_lent : Bool → Call → List ℕ → ℕ → Plan
plan_lent whole call t scratch = plan_of (cond whole t []) scratch call

pub record CarriedLent (whole : Bool) (call : Call) (t t' s s' : List ℕ) (r : Answer) : Type 0 where
  pub answer : r ≡ answer_of (plan_lent whole call t (length s)) (store_count (plan_lent whole call t (length s)))
  pub table : t' ≡ cond whole (whole_table (plan_lent whole call t (length s)) t) t
  pub scratch : s' ≡ scratch_by call (plan_lent whole call t (length s)) s
