-- A node's row of entries.
use Rattle.std.specs.Prelude.{ℕ, ◌+◌, ◌*◌, ◌/◌, ◌^◌, List, get_or, Bool, ◌&&◌, leb, ltb}
use Rattle.table.specs.Geometry.{entry_words}
use Rattle.counting.specs.Counting.{sum}
use Rattle.entries.specs.Frames.{frames_in, set_frames}
use Rattle.table.specs.declared.geometry.Geometry.{Geometry}

-- the six top bits of a state word, and its current place by them
abbrev pub top_of : ℕ → ℕ
top_of w = w / 2 ^ 58

-- the state words of a row of entries that starts at a word
unfoldable pub row_state : List ℕ → ℕ → ℕ → ℕ
row_state t start b = get_or t (start + entry_words * b) 0

-- ---- the frames of a row

-- the frames of the first m entries of a row
unfoldable pub row_frames : List ℕ → ℕ → ℕ → ℕ
row_frames t start m = sum (λ b. frames_in (row_state t start b)) m

-- the frames of four entries, the first at this place
unfoldable pub four_frames : List ℕ → ℕ → ℕ
four_frames t at = frames_in (get_or t at 0) + frames_in (get_or t (at + 3) 0) + (frames_in (get_or t (at + 6) 0) + frames_in (get_or t (at + 9) 0))

-- ---- what tells of a free frame without counting.

-- a node has a frame for both places of every item, and b is one of them
unfoldable pub ample_for : Geometry → ℕ → Bool
ample_for g b = ltb b g.items && leb (2 * g.items) (set_frames g)
