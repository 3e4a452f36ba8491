-- What the survey tells: rows and kinds together are the soundness of nodes and items.
use Rattle.std.specs.Prelude.{ℕ, ◌+◌, ◌/◌, ◌^◌, ◌≤◌, ◌≡◌, Bool, not, ◌&&◌, ◌||◌, List, length}
use Rattle.counting.specs.Counting.{every, sum}
use Rattle.table.specs.declared.geometry.Geometry.{Geometry}
use Rattle.table.specs.Geometry.{words_of}
use Rattle.table.specs.View.{View, view, live}
use Rattle.entries.specs.Frames.{frames_fit}
use Rattle.entries.specs.code.Survey.{top_at, codes_form, weight_of, agrees_at, low_form}
use Rattle.entries.specs.code.SurveyRow.{NotedAll}

-- ---- the tests of the code

-- the codes of a node's entries are of good form, and its frames suffice
unfoldable pub fits_test : Geometry → View → ℕ → Bool
fits_test g v n = every (λ b. codes_form (top_at v b n)) g.items && frames_fit g v n

-- a node is dead, or its words have no other bits, its values agree with those of the nodes below, and it fits
unfoldable pub row_test : Geometry → View → ℕ → Bool
row_test g v n = not (live v n) || (every (λ b. low_form (v.entry n b).state && agrees_at v b n) g.items && fits_test g v n)

-- ---- the survey as it goes

-- a table that has all its words, within the limits of a geometry
pub record Surveyable (g : Geometry) (t : List ℕ) : Type 0 where
  pub words : words_of g ≤ length t
  pub nodes : g.nodes ≤ 16
  pub items : g.items ≤ 256
  pub frames : g.frames ≤ 512

-- the nodes below n are noted, and there is room for a list of all items
pub record Surveying (g : Geometry) (t : List ℕ) (n : ℕ) (list notes : List ℕ) : Type 0 where
  pub table : Surveyable g t
  pub room : g.items ≤ length list
  pub noted : NotedAll (view g t) g.items n notes

-- node n is noted, and the test of its row
pub record RowSurveyed (g : Geometry) (v : View) (n : ℕ) (notes : List ℕ) (r : Bool) : Type 0 where
  pub noted : NotedAll v g.items (n + 1) notes
  pub test : r ≡ row_test g v n

-- the nodes below n are noted, and the tests of their rows
pub record RowsSurveyed (g : Geometry) (v : View) (n : ℕ) (notes : List ℕ) (r : Bool) : Type 0 where
  pub noted : NotedAll v g.items n notes
  pub tests : r ≡ every (row_test g v) n

-- ---- the frames of a row, by the weights of its entries

-- a node's frames, with 1024 for each entry whose codes are out of form
pub record RowFrames (g : Geometry) (v : View) (n frames : ℕ) : Type 0 where
  pub items : g.items ≤ 256
  pub room : g.frames ≤ 512
  pub sums : frames ≡ sum (λ b. weight_of (top_at v b n) / 2 ^ 45) g.items
