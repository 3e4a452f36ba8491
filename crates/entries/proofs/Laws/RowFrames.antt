-- Laws of `specs/code/Row.antt`: the frames of a row.
use Prim.Native.Nat.{ℕ, ◌+◌, ◌*◌, ◌/◌, ◌%◌, ◌≤◌}
use mathlib.Core.Path.{◌≡◌, refl, ap, ◌∙◌}
use mathlib.Core.Bool.{true, ◌&&◌}
use mathlib.Core.List.{List}
use native.Mathlib.Omega.{arith}
use lib.Dec.{eqb, leb, ltb}
use lib.ListN.{get_or}
use borrow.Author.Tests.{eqb-true, ltb-true, leb-true}
use Rattle.counting.proofs.Laws.Tests.{both}
use Rattle.counting.proofs.Laws.Counting.{sum_none, sum_next, sum_ext}
use Rattle.table.specs.declared.geometry.Geometry.{Geometry}
use Rattle.table.specs.Geometry.{Placed}
use Rattle.table.specs.View.{view}
use Rattle.entries.specs.Frames.{sets_of, frame_of, frames_in, used}
use Rattle.entries.proofs.Laws.Frames.{set_there, frames_here}
use Rattle.entries.specs.code.Row.{top_of, row_frames, four_frames}
use Rattle.entries.proofs.Laws.Row.{quarter, row_read, row_state_lem}

-- ---- an entry

-- the frames of an entry by its six top bits
abbrev pub code_frames : ℕ → ℕ
code_frames i = frame_of (i / 4) + frame_of (i % 4)

pub frames_top : (w : ℕ) → code_frames (top_of w) ≡ frames_in w
unfolding frames_in
frames_top w = rw (quarter w) refl

-- ---- a row

module _ (t : List ℕ) (start : ℕ) where
  pub row_frames_none : 0 ≡ row_frames t start 0
  unfolding row_frames
  row_frames_none = sum_none _

  pub row_frames_at : (m m' : ℕ) {n : ℕ} → n ≡ row_frames t start m → m ≡ m' → n ≡ row_frames t start m'
  row_frames_at m m' h e = h ∙ ap (row_frames t start) e

  pub row_frames_next :
      (m : ℕ) {n at f : ℕ} → n ≡ row_frames t start m → at ≡ start + 3 * m → f ≡ frames_in (get_or t at 0) → n + f ≡ row_frames t start (m + 1)
  unfolding row_frames
  row_frames_next m h a e = sum_next _ m h (e ∙ ap frames_in (row_read t start m a refl))

  pub row_frames_four :
      (m m' : ℕ) {n at f : ℕ} → n ≡ row_frames t start m → at ≡ start + 3 * m → m + 4 ≡ m' → f ≡ four_frames t at → n + f ≡ row_frames t start m'
  unfolding four_frames
  row_frames_four m m' {at = at} h a e k =
      let one = row_frames_next m h a refl in
      let two = row_frames_next (m + 1) {at = at + 3} one (omega arith) refl in
      let three = row_frames_next (m + 1 + 1) {at = at + 6} two (omega arith) refl in
      let four = row_frames_next (m + 1 + 1 + 1) {at = at + 9} three (omega arith) refl in
      omega (arith, k, row_frames_at (m + 1 + 1 + 1 + 1) m' four (omega arith))

-- ---- the row of a node

-- a node is there, its row ends within the table, its frames are one set, which is asked for
module _ (g : Geometry) (n s sets end long : ℕ) (test : (ltb n g.nodes && (leb end long && (eqb sets 1 && eqb s 0))) ≡ true) where
  pub row_within : end ≤ long
  row_within = leb-true end long (both (leb end long) (both (ltb n g.nodes) test).1).0

  pub row_used : (t : List ℕ) {start r : ℕ} → Placed g n 0 start → sets ≡ sets_of g → r ≡ row_frames t start g.items → r ≡ used g (view g t) n s
  unfolding row_frames used
  row_used t a e h =
      let there = both (ltb n g.nodes) test in
      let asked = both (eqb sets 1) (both (leb end long) there.1).1 in
      let one : sets ≡ 1 = eqb-true sets 1 asked.0 in
      let first : s ≡ 0 = eqb-true s 0 asked.1 in
      h
      ∙ sum_ext g.items _ _
      (λ b l. frames_here g (view g t) n s b refl (omega (arith, e, one, first, set_there g b)) (ap frames_in (row_state_lem g t n (ltb-true n g.nodes there.0) a b l)))
