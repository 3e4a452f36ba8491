-- The parts of a rehearsal: what each leaves in the table and the scratch.
use Rattle.std.specs.Prelude.{ℕ, ◌≡◌, List, length, Option}
use Rattle.table.specs.Answers.{table_of}
use Rattle.restore.specs.declared.call.Call.{Call}
use Rattle.restore.specs.Call.{plan_of, scratch_by}
use Rattle.restore.specs.Run.{run}
use Rattle.restore.specs.Rehearsal.{call_count, steps_to, hit_by, broken_at, scratch_run, scratch_broken_at}

-- the whole calls
pub record RanCalls (words t t' s s' : List ℕ) : Type 0 where
  pub table : t' ≡ run t (steps_to words (length s) (call_count words))
  pub scratch : s' ≡ scratch_run t (steps_to words (length s) (call_count words)) s

-- the call that is cut, and the hit
pub record Struck (call : Call) (limit : ℕ) (lost : Option ℕ) (words t t' s s' : List ℕ) : Type 0 where
  pub table : t' ≡ hit_by lost words (table_of (plan_of t (length s) call) limit t)
  pub scratch : s' ≡ scratch_by call (plan_of t (length s) call) s

-- the recoveries that are broken off
pub record BrokenOff (lost : Option ℕ) (limits t t' s s' : List ℕ) : Type 0 where
  pub table : t' ≡ broken_at lost (length s) limits t
  pub scratch : s' ≡ scratch_broken_at lost (length s) limits t s
