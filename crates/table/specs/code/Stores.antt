-- A list of stores, carried out, all of them in one entry.
use Rattle.std.specs.Prelude.{ℕ, List, map}
use Rattle.table.specs.declared.geometry.Geometry.{Geometry}
use Rattle.table.specs.Stores.{Change, entry_store, Stored}

abbrev pub StoredIn : Geometry → ℕ → ℕ → ℕ → List Change → List ℕ → List ℕ → ℕ → Type 0
StoredIn g left n b cs t t' left' = Stored g left (map (entry_store n b) cs) t t' left'
