-- Which geometries are allowed, and where the words of a table lie.
use Rattle.std.specs.Prelude.{ℕ, ◌+◌, ◌-◌, ◌*◌, ◌<◌, ◌≡◌, Bool, cond, ◌&&◌, ◌||◌, eqb, leb, None, Option, Some}
use Rattle.table.specs.declared.geometry.Geometry.{Geometry}

-- "Nodes 3 to 16, items 1 to 256, frames per node 1 to 512: call them N, M, F."
abbrev pub in_ranges : ℕ → ℕ → ℕ → Bool
in_ranges n m f = leb 3 n && (leb n 16 && (leb 1 m && (leb m 256 && (leb 1 f && leb f 512))))

-- "F = 2 × M or (N − 2) × F ≥ 4 × M − 1" (K2): frames for four copies of an item while a point is created
abbrev pub four_copies : ℕ → ℕ → ℕ → Bool
four_copies n m f = eqb f (2 * m) || leb (4 * m - 1) ((n - 2) * f)

-- "a geometry is allowed only if" it has these, "besides the ranges" (K2)
abbrev pub allowed : ℕ → ℕ → ℕ → Bool
allowed n m f = in_ranges n m f && four_copies n m f

unfoldable pub geometry_of : ℕ → ℕ → ℕ → Option Geometry
geometry_of n m f = cond (allowed n m f) (Some (record { nodes = n; items = m; frames = f })) None

-- the words of an entry: "state word, current value, kept value"
abbrev pub entry_words : ℕ
entry_words = 3

-- "all 1 + N + 3 × N × M words"
abbrev pub words_of : Geometry → ℕ
words_of g = 1 + g.nodes + entry_words * (g.nodes * g.items)

-- "Words 1 to N, a mark per node"
abbrev pub mark_at : ℕ → ℕ
mark_at n = 1 + n

-- "Then three words for node n, item b, from word 1 + N + 3 × (n × M + b)"
abbrev pub entry_at : Geometry → ℕ → ℕ → ℕ
entry_at g n b = 1 + g.nodes + entry_words * (n * g.items + b)

-- where code finds an entry: never so far that the next words' places overflow
pub record Placed (g : Geometry) (n b r : ℕ) : Type 0 where
  pub at : r ≡ entry_at g n b
  pub small : r < 1000000000
