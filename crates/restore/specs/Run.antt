-- Whole calls, one after the other, on one table.
use Rattle.std.specs.Prelude.{ℕ, suc, Bool, true, false, not, cond, ◌&&◌, ◌||◌, List, [], ◌∷◌, length, get_or}
use Rattle.table.specs.declared.geometry.Geometry.{Geometry}
use Rattle.table.specs.Words.{nodes_of, items_of, frames_of}
use Rattle.table.specs.Answers.{Plan, refuse, nothing_left, carry, table_of}
use Rattle.restore.specs.declared.call.Call.{Call}
use Rattle.restore.specs.declared.call.Call.TheVariants.{Format, Check, Stretch, Read, Write, Evict, Open, Create, Commit, Abandon, Recover}
use Rattle.restore.specs.Call.{plan_of, refused}
use Rattle.restore.specs.Memory.{Memory, fed}

-- the geometry that word 0 of a table gives
abbrev pub geometry_in : List ℕ → Geometry
geometry_in t = record { nodes = nodes_of (get_or t 0 0); items = items_of (get_or t 0 0); frames = frames_of (get_or t 0 0) }

-- a call of a list, and the length of the scratch that it gets: "any scratch", whose words no plan looks at
pub record Step : Type 0 where
  pub call : Call
  pub scratch : ℕ

abbrev pub store_count : Plan → ℕ
store_count (refuse r) = 0
store_count nothing_left = 0
store_count (carry g x ss) = length ss

-- "a limit that no list reaches"
abbrev pub whole_table : Plan → List ℕ → List ℕ
whole_table plan t = table_of plan (store_count plan) t

-- the calls that make a recovery point
abbrev pub is_point : Call → Bool
is_point (Format n m f) = true
is_point Check = false
is_point (Stretch n) = false
is_point (Read n b) = false
is_point (Write n b x) = false
is_point (Evict n b place) = false
is_point Open = false
is_point Create = false
is_point Commit = true
is_point Abandon = false
is_point (Recover lost) = false

-- every call but Format looks at the table that it is given
abbrev pub is_format : Call → Bool
is_format (Format n m f) = true
is_format Check = false
is_format (Stretch n) = false
is_format (Read n b) = false
is_format (Write n b x) = false
is_format (Evict n b place) = false
is_format Open = false
is_format Create = false
is_format Commit = false
is_format Abandon = false
is_format (Recover lost) = false

-- the commits since the last formatting, one finished call later
abbrev pub commits_with : Call → ℕ → ℕ
commits_with (Format n m f) k = 0
commits_with Check k = k
commits_with (Stretch n) k = k
commits_with (Read n b) k = k
commits_with (Write n b x) k = k
commits_with (Evict n b place) k = k
commits_with Open k = k
commits_with Create k = k
commits_with Commit k = suc k
commits_with Abandon k = k
commits_with (Recover lost) k = k

abbrev pub plan_at : List ℕ → Step → Plan
plan_at t s = plan_of t s.scratch s.call

-- the table that a whole call leaves
abbrev pub table_by : List ℕ → Step → List ℕ
table_by t s = whole_table (plan_at t s) t

-- "Finished means whole and not refused"
abbrev pub finished : List ℕ → Step → Bool
finished t s = not (refused (plan_at t s))

-- the plain memory, one call later
abbrev pub memory_with : List ℕ → Step → Memory → Memory
memory_with t s memory = fed s.call (refused (plan_at t s)) memory

-- the commits since the last formatting, one call later
abbrev pub commits_after : List ℕ → Step → ℕ → ℕ
commits_after t s k = cond (finished t s) (commits_with s.call k) k

-- "each call gets the table as the last one left it"
unfoldable pub run : List ℕ → List Step → List ℕ
run t [] = t
run t (s ∷ ss) = run (table_by t s) ss

-- some call of the list is a finished commit or formatting
unfoldable pub has_point : List ℕ → List Step → Bool
has_point t [] = false
has_point t (s ∷ ss) = (is_point s.call && finished t s) || has_point (table_by t s) ss

-- the list up to its last finished commit or formatting; none of it if there is none
unfoldable pub to_point : List ℕ → List Step → List Step
to_point t [] = []
to_point t (s ∷ ss) = cond (has_point t (s ∷ ss)) (s ∷ to_point (table_by t s) ss) []

-- "the commits finished since the last formatting", k of them before the list
unfoldable pub commits_from : ℕ → List ℕ → List Step → ℕ
commits_from k t [] = k
commits_from k t (s ∷ ss) = commits_from (commits_after t s k) (table_by t s) ss

-- "The plain memory is fed a run's calls in order, their arguments and whether each was refused"
unfoldable pub memory_from : Memory → List ℕ → List Step → Memory
memory_from memory t [] = memory
memory_from memory t (s ∷ ss) = memory_from (memory_with t s memory) (table_by t s) ss
