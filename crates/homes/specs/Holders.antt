-- The lowest live node with a copy of a given kind: the server, the owner or a sharer of an item.
use Rattle.std.specs.Prelude.{ℕ, Bool, ◌&&◌, leb}
use Rattle.counting.specs.Counting.{first}
use Rattle.table.specs.declared.geometry.Geometry.{Geometry}
use Rattle.table.specs.View.{View, current, live}

-- a live node whose current place of item b has a code from `low` to `high`
unfoldable pub holds_at : View → ℕ → ℕ → ℕ → ℕ → Bool
holds_at v b low high n = live v n && (leb low (current (v.entry n b)) && leb (current (v.entry n b)) high)

-- the lowest such node; N if there is none
unfoldable pub first_holder : Geometry → View → ℕ → ℕ → ℕ → ℕ
first_holder g v b low high = first (holds_at v b low high) g.nodes
