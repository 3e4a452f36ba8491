-- A FORMATTED TABLE, and that every allowed geometry has them, F above 2 × M too: "Format now refuses F above 2 × M.
-- Tables already formatted go on working." (K7) So the definition asks for the words, not for what Format accepts.
use Rattle.std.specs.Prelude.{ℕ, ◌*◌, ◌≤◌, ◌≡◌, true, List, length, Ok}
use Rattle.table.specs.declared.geometry.Geometry.{Geometry}
use Rattle.table.specs.Geometry.{allowed, words_of}
use Rattle.table.specs.Stores.{Store, after}
use Rattle.table.specs.View.{view}
use Rattle.table.specs.Answers.{carry}
use Rattle.entries.specs.Frames.{used}
use Rattle.entries.specs.Check.{fault_of}
use Rattle.layout.specs.Format.{format_stores, format_of}

-- the words of Format's list, stored on a table
abbrev pub fresh_on : Geometry → List ℕ → List ℕ
fresh_on g t = after g (length (format_stores g)) (format_stores g) t

-- "A table is formatted if it holds the words of Format's list for an allowed geometry."
pub record Formatted (t : List ℕ) : Type 0 where
  pub geometry : Geometry
  pub fair : allowed geometry.nodes geometry.items geometry.frames ≡ true
  pub long : words_of geometry ≤ length t
  -- the stores of the list change nothing
  pub holds : fresh_on geometry t ≡ t

-- ---- THE CLAIM

-- formatted with this geometry, so that the table checks pass
pub record FormattedWith (g : Geometry) (t : List ℕ) : Type 0 where
  pub formatted : Formatted t
  pub geometry_is : formatted.geometry ≡ g
  pub passes : fault_of t ≡ Ok g

pub record GoOnWorking : Type 0 where
  -- "Tables already formatted": by this list, for any allowed geometry, whatever the slice held before
  pub already :
      (t : List ℕ) (g : Geometry) → allowed g.nodes g.items g.frames ≡ true → words_of g ≤ length t
      → FormattedWith g (fresh_on g t)
  -- and those that Format formats now, with F at most 2 × M
  pub by_format :
      (t : List ℕ) (n m f : ℕ) (g : Geometry) (value : ℕ) (ss : List Store) → format_of t n m f ≡ carry g value ss
      → FormattedWith g (after g (length ss) ss t) × (g.frames ≤ 2 * g.items)
  -- where F is at most 2 × M, a formatted table is one on which Format is carried out, and changes nothing
  pub again :
      (t : List ℕ) (f : Formatted t) → f.geometry.frames ≤ 2 * f.geometry.items
      → format_of t f.geometry.nodes f.geometry.items f.geometry.frames
      ≡ carry f.geometry 0 (format_stores f.geometry)
  -- "A node has 2 × M places": whatever a table holds, it uses no more frames, so that those beyond "can never be used"
  pub never_used : (t : List ℕ) (g : Geometry) (n set : ℕ) → used g (view g t) n set ≤ 2 * g.items
