-- The dirty items that are not created.
use Rattle.std.specs.Prelude.{ℕ, Bool, not, ◌&&◌, ◌||◌, eqb, ltb}
use Rattle.counting.specs.Counting.{first}
use Rattle.table.specs.declared.geometry.Geometry.{Geometry}
use Rattle.table.specs.Words.{owner, modified}
use Rattle.table.specs.View.{View, current, live}

abbrev pub owns : ℕ → Bool
owns c = eqb c owner || eqb c modified

-- a live node where item b is Owner or Modified
unfoldable pub owns_at : View → ℕ → ℕ → Bool
owns_at v b k = live v k && owns (current (v.entry k b))

-- the node that owns item b; N if there is none, so that the item is clean or created
unfoldable pub owner_of : Geometry → View → ℕ → ℕ
owner_of g v b = first (owns_at v b) g.nodes

-- "dirty .. not yet created": Precommit1 and Precommit2 stand "in the Owner's stead"
unfoldable pub dirty : Geometry → View → ℕ → Bool
dirty g v b = ltb (owner_of g v b) g.nodes

-- "the lowest dirty item not yet created"; M if none is left
unfoldable pub dirty_item : Geometry → View → ℕ
dirty_item g v = first (dirty g v) g.items

abbrev pub none_dirty : Geometry → View → Bool
none_dirty g v = not (ltb (dirty_item g v) g.items)
