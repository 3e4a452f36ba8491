-- "Each place not Invalid uses a frame; no live node uses more than F." Frames are asked of a node and a set of items; a node's frames are one set.
use Rattle.std.specs.Prelude.{ℕ, ◌+◌, Bool, cond, eqb, leb, ltb}
use Rattle.counting.specs.Counting.{every, sum}
use Rattle.table.specs.declared.geometry.Geometry.{Geometry}
use Rattle.table.specs.Words.{current_of, kept_of}
use Rattle.table.specs.View.{View}

-- ---- the frame rule: how many sets, the set of an item, the frames of a set

abbrev pub sets_of : Geometry → ℕ
sets_of g = 1

abbrev pub set_of : Geometry → ℕ → ℕ
set_of g b = 0

abbrev pub set_frames : Geometry → ℕ
set_frames g = g.frames

-- ---- frames in use

abbrev pub frame_of : ℕ → ℕ
frame_of place = cond (eqb place 0) 0 1

-- the frames of an entry, by its state word
unfoldable pub frames_in : ℕ → ℕ
frames_in w = frame_of (current_of w) + frame_of (kept_of w)

-- the frames of set s that node n uses for item b
unfoldable pub frames_at : Geometry → View → ℕ → ℕ → ℕ → ℕ
frames_at g v n s b = cond (eqb (set_of g b) s) (frames_in (v.entry n b).state) 0

-- the frames of set s that node n uses
unfoldable pub used : Geometry → View → ℕ → ℕ → ℕ
used g v n s = sum (frames_at g v n s) g.items

-- "no live node uses more than F", set by set
unfoldable pub frames_fit : Geometry → View → ℕ → Bool
frames_fit g v n = every (λ s. leb (used g v n s) (set_frames g)) (sets_of g)

-- "used < F": in the set of the item
abbrev pub frame_free : Geometry → View → ℕ → ℕ → Bool
frame_free g v n b = ltb (used g v n (set_of g b)) (set_frames g)
