-- The program quay: what it keeps from record to record, what a step does with it, and the whole.
use Rattle.std.specs.Prelude.{◌≡◌, ℕ, zero, suc, ◌+◌, ◌/◌, ◌%◌, ◌^◌, Bool, false, cond, ◌&&◌, ◌||◌, List, [], ◌∷◌, ◌++◌, length, drop, replicate, None, Option, Some}
use Rattle.table.specs.declared.answers.Numbers.{Numbers}
use Rattle.table.specs.Answers.{Plan, malformed_numbers, numbers_at}
use Rattle.restore.specs.declared.call.Call.{Call}
use Rattle.restore.specs.Call.{plan_of, accepted, scratch_by}
use Rattle.restore.specs.Run.{is_format, store_count, whole_table}
use Rattle.steps.specs.declared.serve.Progress.{Progress}
use Rattle.steps.specs.Steps.{record_of}
use Rattle.steps.specs.Lines.{line_bytes, BytesPut}

-- a table, a scratch, whether a format was accepted, and the number of the next record
pub record Quay : Type 0 where
  pub table : List ℕ
  pub scratch : List ℕ
  pub progress : Progress

abbrev pub quay : List ℕ → List ℕ → Progress → Quay
quay t s p = record { table = t; scratch = s; progress = p }

-- "lent as empty to every call but format until a format is accepted"
abbrev pub lent_whole : Bool → Call → Bool
lent_whole formatted call = formatted || is_format call

abbrev pub lent : Quay → Call → List ℕ
lent q call = cond (lent_whole q.progress.formatted call) q.table []

-- the plan of a call on what it is lent
abbrev pub plan_for : Quay → Call → Plan
plan_for q call = plan_of (lent q call) (length q.scratch) call

-- "answer (0 if carried out), value, stores", of the whole call; "A record that breaks this, any other operation, or a
-- cut-off last record gives answer 18."
abbrev pub line_numbers : Quay → Option Call → Numbers
line_numbers q (Some call) = numbers_at (plan_for q call) (store_count (plan_for q call))
line_numbers q None = malformed_numbers

-- the table, of which a call that is lent an empty one has no word
abbrev pub table_after : Quay → Call → List ℕ
table_after q call = cond (lent_whole q.progress.formatted call) (whole_table (plan_for q call) q.table) q.table

-- "until a format is accepted"
abbrev pub formatted_after : Quay → Call → Bool
formatted_after q call = q.progress.formatted || (is_format call && accepted (plan_for q call))

-- "record counted from 0": in 64 bits, which no file's records fill
abbrev pub counted : Progress → Bool → Progress
counted p formatted = record { formatted = formatted; records = (p.records + 1) % 2 ^ 64 }

abbrev pub quay_after : Quay → Option Call → Quay
quay_after q (Some call) =
    quay (table_after q call) (scratch_by call (plan_for q call) q.scratch) (counted q.progress (formatted_after q call))
quay_after q None = quay q.table q.scratch (counted q.progress q.progress.formatted)

-- THE CONTRACT of serving a step
pub record StepServed (q : Quay) (step : Option Call) (q' : Quay) (numbers : Numbers) : Type 0 where
  pub state : q' ≡ quay_after q step
  pub line : numbers ≡ line_numbers q step

-- ---- THE DEFINITION of the program quay: the bytes of its file to the bytes of its lines.

-- "16 bytes a record", "a cut-off last record" among them
abbrev pub record_count : List ℕ → ℕ
record_count bytes = (length bytes + 15) / 16

-- the steps of the first k records
unfoldable pub steps_up_to : ℕ → List ℕ → List (Option Call)
steps_up_to zero bytes = []
steps_up_to (suc k) bytes = record_of bytes ∷ steps_up_to k (drop 16 bytes)

abbrev pub steps_in : List ℕ → List (Option Call)
steps_in bytes = steps_up_to (record_count bytes) bytes

-- a line for each step, and what is left after the last
unfoldable pub lines_by : Quay → List (Option Call) → List ℕ
lines_by q [] = []
lines_by q (step ∷ steps) = line_bytes q.progress.records (line_numbers q step) ++ lines_by (quay_after q step) steps

unfoldable pub quay_after_all : Quay → List (Option Call) → Quay
quay_after_all q [] = q
quay_after_all q (step ∷ steps) = quay_after_all (quay_after q step) steps

-- of bytes
abbrev pub lines_of : Quay → List ℕ → List ℕ
lines_of q bytes = lines_by q (steps_in bytes)

abbrev pub left_by : Quay → List ℕ → Quay
left_by q bytes = quay_after_all q (steps_in bytes)

abbrev pub at_start : Progress
at_start = record { formatted = false; records = 0 }

-- "Its table has 8,000 words"; the scratch is that of a Recover of the largest geometry, 256 items and 16 nodes
abbrev pub start : Quay
start = quay (replicate 8000 0) (replicate 272 0) at_start

-- THE PROGRAM
abbrev pub quay_of : List ℕ → List ℕ
quay_of bytes = lines_of start bytes

-- THE CONTRACT of a run over some bytes: quay after them, and their lines at the start of a buffer
pub record RecordsRun (q : Quay) (bytes : List ℕ) (q' : Quay) (out out' : List ℕ) (r : ℕ) : Type 0 where
  pub state : q' ≡ left_by q bytes
  pub lines : BytesPut (lines_of q bytes) out out' r
