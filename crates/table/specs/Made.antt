-- The stores of a call as they are made: the lent table, its geometry and what is left of the limit, before and after.
use Rattle.std.specs.Prelude.{◌≡◌, ℕ, List, map}
use Rattle.table.specs.declared.stores.Stores.{Stores}
use Rattle.table.specs.Stores.{Change, Store, entry_store, Stored}
use Rattle.table.specs.View.{View, view}

-- a list of stores, made: in the same table, by the same geometry
pub record Made (s : Stores) (ss : List Store) (s' : Stores) : Type 0 where
  pub same_reference : s'.table.ghost_name ≡ s.table.ghost_name
  pub same_geometry : s'.g ≡ s.g
  pub stored : Stored s.g s.left ss s.table.now s'.table.now s'.left

-- the same for the changes of one entry
abbrev pub MadeIn : Stores → ℕ → ℕ → List Change → Stores → Type 0
MadeIn s n b cs s' = Made s (map (entry_store n b) cs) s'

-- what the lent table shows
abbrev pub shown : Stores → View
shown s = view s.g s.table.now
