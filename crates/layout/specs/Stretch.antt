-- Check and Stretch, which store nothing. "Check: a yes, or a refusal." "A node's entries can be had as the stretch of the caller's own table, not
-- a copy; a refusal gives an empty stretch, and a second call with the same inputs gives its number, or 0."
use Rattle.std.specs.Prelude.{ℕ, ◌+◌, ◌*◌, ◌≤◌, ◌≡◌, cond, List, [], leb, length, take, drop, Err, Ok, Result}
use Rattle.table.specs.declared.answers.Refusal.TheVariants.{NoNode}
use Rattle.table.specs.declared.geometry.Geometry.{Geometry}
use Rattle.table.specs.declared.answers.Refusal.{Refusal}
use Rattle.table.specs.Geometry.{entry_words, entry_at}
use Rattle.layout.specs.declared.stretch.Span.{Span}
use Rattle.entries.specs.Check.{sizes_of, fault_of}
use Rattle.table.specs.Answers.{Plan, refuse, nothing_left, carry}

-- ---- Check: "the table checks"

unfoldable pub checked_plan : Result Geometry Refusal → Plan
checked_plan (Err x) = refuse x
checked_plan (Ok g) = carry g 0 []

abbrev pub check_of : List ℕ → Plan
check_of t = checked_plan (fault_of t)

-- ---- Stretch: "1, 3, 1 as above, then 4 node ≥ N"

unfoldable pub stretch_checked : ℕ → Result Geometry Refusal → Plan
stretch_checked n (Err x) = refuse x
stretch_checked n (Ok g) = cond (leb g.nodes n) (refuse NoNode) (carry g 0 [])

abbrev pub stretch_of : List ℕ → ℕ → Plan
stretch_of t n = stretch_checked n (sizes_of t)

-- the stretch: the words of the node's entries, or none
unfoldable pub stretch_part : List ℕ → ℕ → Plan → List ℕ
stretch_part t n (refuse x) = []
stretch_part t n nothing_left = []
stretch_part t n (carry g value ss) = take (entry_words * g.items) (drop (entry_at g n 0) t)

-- where it lies
unfoldable pub span_by : ℕ → Plan → Result Span Refusal
span_by n (refuse x) = Err x
span_by n nothing_left = Ok (record { start = 0; end = 0 })
span_by n (carry g value ss) = Ok (record { start = entry_at g n 0; end = entry_at g n 0 + entry_words * g.items })

-- where code finds a node's entries
pub record Spanned (t : List ℕ) (n : ℕ) (r : Result Span Refusal) : Type 0 where
  pub is : r ≡ span_by n (stretch_of t n)
  pub within : (span : Span) → r ≡ Ok span → (span.start ≤ span.end) × (span.end ≤ length t)
