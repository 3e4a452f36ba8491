-- What the functions that close a checkpoint ask of their callers.
use Rattle.std.specs.Prelude.{ℕ, ◌<◌, ◌≤◌, ◌≡◌, List, length, true}
use Rattle.table.specs.declared.geometry.Geometry.{Geometry}
use Rattle.table.specs.Geometry.{words_of, entry_at}
use Rattle.table.specs.declared.stores.Stores.{Stores}
use Rattle.table.specs.Stores.{Stored, runs}
use Rattle.table.specs.Made.{shown}
use Rattle.table.specs.View.{view, live, mark_to}
use Rattle.checkpoints.specs.Checkpoint.{common_mark}

-- the place of the state word of an entry that is there, in a table that has all its words
pub record Lies (g : Geometry) (t : List ℕ) (n b at : ℕ) : Type 0 where
  pub node : n < g.nodes
  pub item : b < g.items
  pub place : at ≡ entry_at g n b
  pub long : words_of g ≤ length t

-- ---- what the stores of Open, Commit and Abandon rest on: live marks agree, so one word is stored on each of them.

-- every live mark is the common one
pub record Agreed (g : Geometry) (t : List ℕ) : Type 0 where
  pub long : words_of g ≤ length t
  pub same : (n : ℕ) → n < g.nodes → live (view g t) n ≡ true → (view g t).mark n ≡ common_mark g (view g t)

-- ---- the marks that are stored: one word

-- what the code that stores a word on every live mark of the nodes before k makes of a table, if that has all its
-- words
pub record MarksStored (s : Stores) (word k : ℕ) (s' : Stores) : Type 0 where
  pub same_reference : s'.table.ghost_name ≡ s.table.ghost_name
  pub same_geometry : s'.g ≡ s.g
  pub size : length s'.table.now ≡ length s.table.now
  pub stored :
      words_of s.g ≤ length s.table.now
      → Stored s.g s.left (runs (mark_to (shown s) (λ w. word)) k) s.table.now s'.table.now s'.left
