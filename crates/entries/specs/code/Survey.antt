-- The survey of a table by rows: what the entries of the live nodes add up to for each item. An entry has a weight, which is told by the six top bits of its
-- state word; an item's tally is the sum of its entries' weights.
use Rattle.std.specs.Prelude.{ℕ, ◌+◌, ◌*◌, ◌/◌, ◌%◌, ◌^◌, ◌≡◌, Bool, true, not, cond, ◌&&◌, ◌||◌, eqb, ltb}
use Rattle.counting.specs.Counting.{sum, one}
use Rattle.counting.specs.Values.{Values, values_of}
use Rattle.table.specs.View.{View, live}
use Rattle.entries.specs.Frames.{frame_of}
use Rattle.entries.specs.code.Row.{top_of}

-- ---- an entry by the six top bits of its state word: 4 for the current place, 2 for the kept place

-- the codes are of good form
unfoldable pub codes_form : ℕ → Bool
codes_form top = ltb (top / 4) 8 && (ltb (top % 4) 3 && (eqb (top % 4) 0 || (ltb (top / 4) 4 || ltb 5 (top / 4))))

-- of good form, with a current copy; with a kept copy; with the current place, or the kept place, at a code
unfoldable pub holds : ℕ → Bool
holds top = codes_form top && not (eqb (top / 4) 0)

unfoldable pub keeps : ℕ → Bool
keeps top = codes_form top && not (eqb (top % 4) 0)

unfoldable pub holds_at : ℕ → ℕ → Bool
holds_at code top = codes_form top && eqb (top / 4) code

unfoldable pub keeps_at : ℕ → ℕ → Bool
keeps_at code top = codes_form top && eqb (top % 4) code

-- the frames of an entry of good form
unfoldable pub frames_by : ℕ → ℕ
frames_by top = cond (codes_form top) (frame_of (top / 4) + frame_of (top % 4)) 0

-- 5 bits a count: the copies, the kept places 1 and 2, the current places 2 to 7; then the frames in 10 bits, then the entries out of form
unfoldable pub weight_of : ℕ → ℕ
weight_of top =
    one (holds top)
    + one (keeps_at 1 top) * 2 ^ 5
    + one (keeps_at 2 top) * 2 ^ 10
    + one (holds_at 2 top) * 2 ^ 15
    + one (holds_at 3 top) * 2 ^ 20
    + one (holds_at 4 top) * 2 ^ 25
    + one (holds_at 5 top) * 2 ^ 30
    + one (holds_at 6 top) * 2 ^ 35
    + one (holds_at 7 top) * 2 ^ 40
    + frames_by top * 2 ^ 45
    + one (not (codes_form top)) * 2 ^ 55

-- ---- item b over the live nodes

abbrev pub top_at : View → ℕ → ℕ → ℕ
top_at v b n = top_of (v.entry n b).state

-- a test of the top bits, of the live nodes
abbrev pub live_top : (ℕ → Bool) → View → ℕ → ℕ → Bool
live_top p v b n = live v n && p (top_at v b n)

unfoldable pub weight_at : View → ℕ → ℕ → ℕ
weight_at v b n = cond (live v n) (weight_of (top_at v b n)) 0

-- the values of the copies, and of the kept copies, on the nodes below n
unfoldable pub held_values : View → ℕ → ℕ → Values
held_values v b n = values_of n (live_top holds v b) (λ m. (v.entry m b).value)

unfoldable pub kept_values : View → ℕ → ℕ → Values
kept_values v b n = values_of n (live_top keeps v b) (λ m. (v.entry m b).kept_value)

-- what is noted of item b when the nodes below n are passed: the tally, the first copy's value, the first kept copy's
pub record Noted (v : View) (b n t f h : ℕ) : Type 0 where
  pub tally : t ≡ sum (weight_at v b) n
  pub first : (held_values v b n).seen ≡ true → f ≡ (held_values v b n).first
  pub kept : (kept_values v b n).seen ≡ true → h ≡ (kept_values v b n).first

-- node n's copies of item b have the values of those on the nodes below
unfoldable pub agrees_at : View → ℕ → ℕ → Bool
agrees_at v b n =
    (not (live_top holds v b n) || (not (held_values v b n).seen || eqb (v.entry n b).value (held_values v b n).first))
    && (not (live_top keeps v b n) || (not (kept_values v b n).seen || eqb (v.entry n b).kept_value (kept_values v b n).first))

-- a state word has no other bits
abbrev pub low_form : ℕ → Bool
low_form w = eqb (w % 2 ^ 58) 0

-- ---- the tests of the code

-- by its tally, an item is clean, dirty, or, in phase 1 only, created
abbrev pub kind_test : ℕ → ℕ → Bool
kind_test phase t =
    eqb (t / 32) (2 ^ 20 + 2 ^ 25)
    || ((eqb t (1 + 2 ^ 5 + 2 ^ 10 + 2 ^ 20) || eqb (t / 32) (1 + 2 ^ 5 + 2 ^ 10)) || (eqb phase 1 && eqb (t / 32) (1 + 2 ^ 5 + 2 ^ 30 + 2 ^ 35)))

-- the same with one number for the phase: a created item's tally, without its copies, or an owned one's
abbrev pub created_tally : ℕ → ℕ
created_tally phase = cond (eqb phase 1) (1 + 2 ^ 5 + 2 ^ 30 + 2 ^ 35) (1 + 2 ^ 5 + 2 ^ 10)

abbrev pub kind_by : ℕ → ℕ → Bool
kind_by created t =
    eqb (t / 32) (2 ^ 20 + 2 ^ 25) || ((eqb t (1 + 2 ^ 5 + 2 ^ 10 + 2 ^ 20) || eqb (t / 32) (1 + 2 ^ 5 + 2 ^ 10)) || eqb (t / 32) created)

-- by its tally, an item has an Owner or a Modified
abbrev pub owns_test : ℕ → Bool
owns_test t = not (eqb (t / 2 ^ 15 % 1024) 0)
