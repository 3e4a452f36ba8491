-- A run as its code goes: bytes put at a place of a buffer, and how far a run has come.
use Rattle.std.specs.Prelude.{◌≡◌, ℕ, ◌+◌, ◌*◌, ◌≤◌, List, ◌++◌, length, take, drop, Option}
use Rattle.steps.specs.Run.{Quay, line_numbers, quay_after, steps_in, lines_by, quay_after_all, lines_of, left_by}
use Rattle.steps.specs.Lines.{line_bytes}
use Rattle.restore.specs.declared.call.Call.{Call}

-- bytes put at a place: what is before them and after them stays; the answer is the place after them
pub record PutAt (out : List ℕ) (at : ℕ) (bytes out' : List ℕ) (r : ℕ) : Type 0 where
  pub end : r ≡ at + length bytes
  pub start : take r out' ≡ take at out ++ bytes
  pub rest : drop r out' ≡ drop r out
  pub size : length out' ≡ length out

-- a step served, and its line put at a place
pub record StepRun (q : Quay) (step : Option Call) (q' : Quay) (out : List ℕ) (at : ℕ) (out' : List ℕ) (r : ℕ) : Type 0 where
  pub state : q' ≡ quay_after q step
  pub line : PutAt out at (line_bytes q.progress.records (line_numbers q step)) out' r

-- the first i records are served, and their lines stand before the place `to`
pub record RunTo (q₀ : Quay) (bytes out₀ : List ℕ) (q : Quay) (out : List ℕ) (i to : ℕ) : Type 0 where
  pub state : quay_after_all q (steps_in (drop (16 * i) bytes)) ≡ left_by q₀ bytes
  pub lines : take to out ++ lines_by q (steps_in (drop (16 * i) bytes)) ≡ lines_of q₀ bytes
  pub rest : drop to out ≡ drop to out₀
  pub size : length out ≡ length out₀
  pub room : to ≤ 84 * i
