-- What the functions that roll the entries promise.
use Rattle.std.specs.Prelude.{ℕ, ◌≤◌, ◌<◌, ◌≡◌, Bool, cond, List, [], ◌∷◌, eqb, length, Option}
use Rattle.table.specs.declared.geometry.Geometry.{Geometry}
use Rattle.table.specs.Geometry.{words_of}
use Rattle.table.specs.Words.{invalid}
use Rattle.table.specs.declared.stores.Stores.{Stores}
use Rattle.table.specs.Stores.{Change, state_to}
use Rattle.table.specs.Made.{Made, shown}
use Rattle.table.specs.View.{view, pass}
use Rattle.checkpoints.specs.Checkpoint.{live_changes, entries_to}
use Rattle.survivors.specs.Survivors.{survivors}
use Rattle.recovery.specs.Sides.{roll_change}
use Rattle.recovery.specs.code.Rows.{state_in, ListedAll}

-- ---- one entry

-- "state with current Invalid if it was not"
abbrev pub cleared : ℕ → ℕ → List Change
cleared c k = cond (eqb c invalid) [] (state_to invalid k ∷ [])

-- ---- a node's entries

-- what the pass over a node's list needs
pub record RollListed (g : Geometry) (n : ℕ) (t l : List ℕ) : Type 0 where
  pub there : n < g.nodes
  pub long : words_of g ≤ length t
  pub listed : ListedAll (state_in (view g t) n) g.items l

-- what a node's turn owes; of the list only its length is told
pub record RolledNode (lost : Option ℕ) (n : ℕ) (forward : Bool) (s s' : Stores) (l l' : List ℕ) : Type 0 where
  pub made : Made s (pass (λ d. n) (λ d. d) (λ d. live_changes (roll_change forward) (survivors lost (shown s)) n d) s.g.items) s'
  pub size : length l' ≡ length l

-- what the pass over all nodes owes; of the list only its length is told
pub record Rolled (lost : Option ℕ) (forward : Bool) (s s' : Stores) (l l' : List ℕ) : Type 0 where
  pub made : Made s (entries_to s.g (survivors lost (shown s)) (roll_change forward)) s'
  pub size : length l' ≡ length l
