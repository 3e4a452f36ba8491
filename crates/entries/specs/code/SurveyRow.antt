-- The survey of one row: the entries that hold something are gathered, and only these are noted.
use Rattle.std.specs.Prelude.{ℕ, ◌+◌, ◌*◌, ◌/◌, ◌%◌, ◌^◌, ◌<◌, ◌≤◌, ◌≡◌, Bool, true, not, cond, ◌&&◌, List, eqb, length, get_or, set}
use Rattle.counting.specs.Counting.{every, sum, count}
use Rattle.table.specs.declared.geometry.Geometry.{Geometry}
use Rattle.table.specs.Geometry.{words_of}
use Rattle.table.specs.View.{View, view, live}
use Rattle.entries.specs.declared.survey.Turn.{Turn}
use Rattle.entries.specs.code.Survey.{top_at, weight_of, Noted, agrees_at, low_form}
use Rattle.entries.specs.code.Row.{top_of}

-- ---- the entries of a row that hold something

-- an entry holds something
abbrev pub occupies : (ℕ → ℕ) → ℕ → Bool
occupies s b = not (eqb (s b) 0)

-- the list has the offset of each entry below m that holds something, in order, and r is how many there are
pub record Gathered (s : ℕ → ℕ) (m : ℕ) (list : List ℕ) (r : ℕ) : Type 0 where
  pub counted : r ≡ count (occupies s) m
  pub lists : (b : ℕ) → b < m → (s b ≡ 0 → ⊥) → get_or list (count (occupies s) b) 0 ≡ 3 * b

-- ---- one entry

-- the three words noted of an item, with one entry more: of a tally t with first values f and h, and an entry of weight w with values x and y
abbrev pub first_with : ℕ → ℕ → ℕ → ℕ
first_with t f x = cond (eqb (t % 32) 0) x f

abbrev pub kept_with : ℕ → ℕ → ℕ → ℕ
kept_with t h y = cond (eqb (t / 32 % 1024) 0) y h

-- the values agree
abbrev pub same_with : ℕ → ℕ → ℕ → Bool
same_with w f x = eqb f (cond (eqb (w % 32) 0) f x)

abbrev pub same_kept : ℕ → ℕ → ℕ → Bool
same_kept w h y = eqb h (cond (eqb (w / 32 % 1024) 0) h y)

-- an entry of state word s and values x, y is noted in the three words from j
pub record EntryNoted (s x y j : ℕ) (notes notes' : List ℕ) (r : Turn) : Type 0 where
  pub stored :
      notes'
      ≡ set (set (set notes j (get_or notes j 0 + weight_of (top_of s)))
      (j + 1) (first_with (get_or notes j 0) (get_or notes (j + 1) 0) x))
      (j + 2) (kept_with (get_or notes j 0) (get_or notes (j + 2) 0) y)
  pub frames : r.frames ≡ weight_of (top_of s) / 2 ^ 45
  pub same :
      eqb r.differ 0
      ≡ (same_with (weight_of (top_of s)) (first_with (get_or notes j 0) (get_or notes (j + 1) 0) x) x
      && (same_kept (weight_of (top_of s)) (kept_with (get_or notes j 0) (get_or notes (j + 2) 0) y) y && low_form s))

-- ---- a row

-- each of m items is noted for the nodes below n
pub record NotedAll (v : View) (m n : ℕ) (notes : List ℕ) : Type 0 where
  pub long : 3 * m ≤ length notes
  pub each : (b : ℕ) → b < m → Noted v b n (get_or notes (3 * b) 0) (get_or notes (3 * b + 1) 0) (get_or notes (3 * b + 2) 0)

-- node n is live, in a table that has all its words, and the items are noted for the nodes below
pub record RowReady (g : Geometry) (t : List ℕ) (n : ℕ) (list notes : List ℕ) : Type 0 where
  pub words : words_of g ≤ length t
  pub node : n < g.nodes
  pub nodes : g.nodes ≤ 16
  pub items : g.items ≤ 256
  pub lives : live (view g t) n ≡ true
  pub room : g.items ≤ length list
  pub noted : NotedAll (view g t) g.items n notes

-- the row of node n is noted: what its weights tell of frames and forms, and whether no other bits are there and all values agree
pub record RowNoted (g : Geometry) (v : View) (n : ℕ) (notes : List ℕ) (r : Turn) : Type 0 where
  pub noted : NotedAll v g.items (n + 1) notes
  pub frames : r.frames ≡ sum (λ b. weight_of (top_at v b n) / 2 ^ 45) g.items
  pub same : eqb r.differ 0 ≡ every (λ b. low_form (v.entry n b).state && agrees_at v b n) g.items
