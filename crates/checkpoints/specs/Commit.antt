-- Commit: "each live mark, phase 2 and number plus 1, ascending; entries by node, then item, one state store where Precommit or Inv-CK
-- stands; each live mark, phase 0."
use Rattle.std.specs.Prelude.{ℕ, ◌+◌, cond, List, [], ◌++◌, length, Err, Ok}
use Rattle.table.specs.declared.geometry.Geometry.{Geometry}
use Rattle.table.specs.declared.answers.Refusal.TheVariants.{NotCreated}
use Rattle.table.specs.Words.{number_of, mark_word}
use Rattle.table.specs.Stores.{Store}
use Rattle.table.specs.View.{View, marks_to}
use Rattle.table.specs.Answers.{Plan, refuse, nothing_left, carry}
use Rattle.homes.specs.Admission.{Admission, plan_by}
use Rattle.entries.specs.Dirty.{none_dirty}
use Rattle.checkpoints.specs.Checkpoint.{open_admission, entries_to, commit_change, abandon_change}

-- ---- the stores

-- "phase 2 and number plus 1"
abbrev pub committing_mark : ℕ → ℕ
committing_mark w = mark_word 2 (number_of w + 1)

-- "each live mark, phase 0", from the mark at entry: its number is that plus 1
abbrev pub committed_mark : ℕ → ℕ
committed_mark w = mark_word 0 (number_of w + 1)

unfoldable pub commit_stores : Geometry → View → List Store
commit_stores g v = (marks_to g v committing_mark ++ entries_to g v commit_change) ++ marks_to g v committed_mark

-- ---- the refusals

-- "8; 12 a dirty item not created"
unfoldable pub created_admission : Geometry → View → Admission → Admission
created_admission g v (Err x) = Err x
created_admission g v (Ok _) = cond (none_dirty g v) (Ok tt) (Err NotCreated)

abbrev pub commit_admission : Geometry → View → Admission
commit_admission g v = created_admission g v (open_admission g v)

-- ---- the plan

abbrev pub commit_of : List ℕ → Plan
commit_of t = plan_by commit_admission (λ g v. carry g 0 (commit_stores g v)) t

-- ---- how long it will be, asked before: Commit's own refusals, or the number of its stores as the value; nothing is
-- stored

abbrev pub length_told : Plan → Plan
length_told (refuse x) = refuse x
length_told nothing_left = nothing_left
length_told (carry g value ss) = carry g (length ss) []

abbrev pub commit_length_of : List ℕ → Plan
commit_length_of t = length_told (commit_of t)

-- ---- Abandon: "Precommit state words likewise, then marks to phase 0."

-- "marks to phase 0", the number as it was
abbrev pub running_mark : ℕ → ℕ
running_mark w = mark_word 0 (number_of w)

unfoldable pub abandon_stores : Geometry → View → List Store
abandon_stores g v = entries_to g v abandon_change ++ marks_to g v running_mark

-- ---- the plan

abbrev pub abandon_of : List ℕ → Plan
abandon_of t = plan_by open_admission (λ g v. carry g 0 (abandon_stores g v)) t
