-- Document 01's examples marked P, in one table; with what document 02 makes of those with 1 frame a node (K2).
use Rattle.std.specs.Prelude.{ℕ, ◌≡◌, cond, List, [], ◌∷◌, ◌++◌, eqb, get_or, take, replicate, None, Option, Some}
use Rattle.table.specs.View.{view, current}
use Rattle.table.specs.declared.answers.Numbers.{Numbers}
use Rattle.table.specs.Answers.{Plan, numbers_at, table_of}
use Rattle.layout.specs.Formatted.{fresh_on}
use Rattle.homes.specs.declared.places.Place.TheVariants.{Current}
use Rattle.restore.specs.declared.call.Call.{Call}
use Rattle.restore.specs.declared.call.Call.TheVariants.{Format, Read, Write, Evict, Open, Create, Commit, Recover}
use Rattle.restore.specs.Run.{Step, geometry_in, store_count, plan_at, table_by, run}

-- ---- the calls

-- with scratch enough: M + N words, for at most 5 nodes and 1 item
abbrev pub step : Call → Step
step call = record { call = call; scratch = 6 }

-- the words of 3 nodes and 1 item
abbrev pub zeros : List ℕ
zeros = replicate 13 0

-- "Records: format 3, 1, 2; write node 2 item 0 value 7; read node 0; open; create; commit; write node 0 value 9; recover lost 2; read node 1;
-- read node 2."
abbrev pub records : List Step
records =
    step (Format 3 1 2)
    ∷ step (Write 2 0 7)
    ∷ step (Read 0 0)
    ∷ step Open
    ∷ step Create
    ∷ step Commit
    ∷ step (Write 0 0 9)
    ∷ step (Recover (Some 2))
    ∷ step (Read 1 0)
    ∷ step (Read 2 0)
    ∷ []

-- ---- the tables

-- before record k
abbrev pub before : ℕ → List ℕ
before k = run zeros (take k records)

-- "that commit cut after" so many stores, and the recovery
abbrev pub cut_commit : ℕ → List ℕ
cut_commit limit = table_of (plan_at (before 5) (step Commit)) limit (before 5)

abbrev pub recovered : ℕ → Option ℕ → List ℕ
recovered limit lost = table_by (cut_commit limit) (step (Recover lost))

-- the words of Format's list for "geometry 3, 1, 1"
abbrev pub narrow : List ℕ
narrow = fresh_on (record { nodes = 3; items = 1; frames = 1 }) zeros

-- geometry 5, 1, 1, and after these calls
abbrev pub tight : List Step → List ℕ
tight calls = run (replicate 21 0) (step (Format 5 1 1) ∷ calls)

-- a write at node 2 where node 3 is dead, and where node 4 is too
abbrev pub one_dead : List Step
one_dead = step (Recover (Some 3)) ∷ step (Write 2 0 7) ∷ []

abbrev pub two_dead : List Step
two_dead = step (Recover (Some 3)) ∷ step (Recover (Some 4)) ∷ step (Write 2 0 7) ∷ []

-- ---- the rows: what the definitions give, and what the documents say

pub data Shown : Type 0 where
  -- answer, value and stores of a call
  numbers : Numbers → Shown
  -- the value of a read that is carried out
  read : ℕ → Shown
  -- a call is carried out
  done : Shown
  -- the state code of a current place
  state : ℕ → Shown

pub record Row : Type 0 where
  pub given : Shown
  pub written : Shown

abbrev pub whole_numbers : Plan → Numbers
whole_numbers plan = numbers_at plan (store_count plan)

-- the numbers of a whole call
abbrev pub numbers_by : List ℕ → Step → Numbers
numbers_by t s = whole_numbers (plan_at t s)

-- a call that is not carried out shows its numbers
abbrev pub if_done : Numbers → Shown → Shown
if_done n shown = cond (eqb n.answer 0) shown (numbers n)

abbrev pub read_shown : Numbers → Shown
read_shown n = if_done n (read n.value)

-- a call on a table: answer, value, stores
abbrev pub call : List ℕ → Step → ℕ → ℕ → ℕ → Row
call t s answer x stores = record { given = numbers (numbers_by t s); written = numbers (record { answer = answer; value = x; stores = stores }) }

-- "A line: record counted from 0, answer (0 if carried out), value, stores."
abbrev pub line : ℕ → ℕ → ℕ → ℕ → Row
line k = call (before k) (get_or records k (step Open))

-- a call on a table is "done"
abbrev pub is_done : List ℕ → Step → Row
is_done t s = record { given = if_done (numbers_by t s) done; written = done }

-- a read at node n "gives" x
abbrev pub gives : List ℕ → ℕ → ℕ → Row
gives t n x = record { given = read_shown (numbers_by t (step (Read n 0))); written = read x }

-- the current place of node n
abbrev pub state_is : List ℕ → ℕ → ℕ → Row
state_is t n code = record { given = state (current ((view (geometry_in t) t).entry n 0)); written = state code }

-- ---- the table

abbrev pub examples : List Row
examples =
    -- "format 3, 1, 2"
    line 0 0 0 13
    -- "write node 2 item 0 value 7"
    ∷ line 1 0 0 6
    -- "read node 0"
    ∷ line 2 0 7 3
    -- "open"
    ∷ line 3 0 0 3
    -- "create"
    ∷ line 4 0 0 2
    -- "commit"
    ∷ line 5 0 0 9
    -- "write node 0 value 9"
    ∷ line 6 0 0 6
    -- "recover lost 2"
    ∷ line 7 0 0 8
    -- "read node 1"
    ∷ line 8 0 7 0
    -- "read node 2"
    ∷ line 9 6 0 0
    -- "that commit cut after 1 store: lost node 0 gives 0", at each survivor
    ∷ gives (recovered 1 (Some 0)) 1 0
    ∷ gives (recovered 1 (Some 0)) 2 0
    -- "lost 1, 2 or none gives 7"
    ∷ gives (recovered 1 (Some 1)) 0 7
    ∷ gives (recovered 1 (Some 1)) 2 7
    ∷ gives (recovered 1 (Some 2)) 0 7
    ∷ gives (recovered 1 (Some 2)) 1 7
    ∷ gives (recovered 1 None) 0 7
    ∷ gives (recovered 1 None) 1 7
    ∷ gives (recovered 1 None) 2 7
    -- "cut after 2 stores: lost node 0 gives 7"
    ∷ gives (recovered 2 (Some 0)) 1 7
    ∷ gives (recovered 2 (Some 0)) 2 7
    -- "after record 1, evicting node 2's current place takes 3 stores"
    ∷ call (before 2) (step (Evict 2 0 Current)) 0 0 3
    -- "node 0 is Modified": "Current: .. 3 Modified (exclusive)"
    ∷ state_is (table_by (before 2) (step (Evict 2 0 Current))) 0 3
    -- "its cases 3, 1, 1 and 4, 256, 256 and 16, 18, 3 now give 3" (K2)
    ∷ call zeros (step (Format 3 1 1)) 3 0 0
    ∷ call zeros (step (Format 4 256 256)) 3 0 0
    ∷ call zeros (step (Format 16 18 3)) 3 0 0
    -- the calls of the case 3, 1, 1, on a table that has its words: "a write at node 0", "at node 2", "open", "create"
    ∷ call narrow (step (Write 0 0 7)) 3 0 0
    ∷ call narrow (step (Write 2 0 7)) 3 0 0
    ∷ call narrow (step Open) 3 0 0
    ∷ call narrow (step Create) 3 0 0
    -- in its place geometry 5, 1, 1: a write at node 0 is 9
    ∷ call (tight []) (step (Write 0 0 7)) 9 0 0
    -- at node 2 done
    ∷ is_done (tight []) (step (Write 2 0 7))
    -- with node 3 dead: open, create done
    ∷ is_done (tight one_dead) (step Open)
    ∷ is_done (tight (one_dead ++ (step Open ∷ []))) (step Create)
    -- with nodes 3 and 4 dead: open done, create then 11
    ∷ is_done (tight two_dead) (step Open)
    ∷ call (tight (two_dead ++ (step Open ∷ []))) (step Create) 11 0 0
    -- and evicting node 2's current place 11
    ∷ call (tight two_dead) (step (Evict 2 0 Current)) 11 0 0
    ∷ []

-- ---- what is proved of the table

-- each row is as it is written
unfoldable pub Given : List Row → Type 0
Given [] = Unit {0}
Given (r ∷ rs) = (r.given ≡ r.written) × Given rs
