-- What Evict keeps however it is cut. A copy that goes home: the home gains its recovery copy, then the source loses it.
use Prim.Native.Nat.{ℕ, ◌≤◌, ◌<◌}
use mathlib.Core.Path.{◌≡◌}
use mathlib.Core.Bool.{true}
use Rattle.table.specs.declared.geometry.Geometry.{Geometry}
use Rattle.table.specs.Words.{state_form}
use Rattle.table.specs.View.{View}
use Rattle.table.specs.Copies.{no_copy, back_copy}
use Rattle.entries.specs.Frames.{sets_of, set_frames, used}
use Rattle.homes.proofs.Laws.Kept.{Live}

-- item b's recovery copies at home h and source n: v at entry, w at the cut
pub data Moves (n h b : ℕ) (v w : View) : Type 0 where
  -- nothing moved yet; or what goes home is no recovery copy
  still : back_copy (w.entry h b) ≡ back_copy (v.entry h b) → back_copy (w.entry n b) ≡ back_copy (v.entry n b) → Moves n h b v w
  -- the home, which had none, has the source's
  twice :
      back_copy (v.entry h b) ≡ no_copy → back_copy (w.entry h b) ≡ back_copy (v.entry n b) → back_copy (w.entry n b) ≡ back_copy (v.entry n b)
      → Moves n h b v w
  -- and the source has none
  moved :
      back_copy (v.entry h b) ≡ no_copy → back_copy (w.entry h b) ≡ back_copy (v.entry n b) → back_copy (w.entry n b) ≡ no_copy → Moves n h b v w

pub record Moving (g : Geometry) (n h b : ℕ) (v w : View) : Type 0 where
  pub marks : w.mark ≡ v.mark
  pub forms : (k c : ℕ) → Live g v k → c < g.items → state_form (w.entry k c).state ≡ true
  pub frames : (k s : ℕ) → Live g v k → s < sets_of g → used g w k s ≤ set_frames g
  pub back :
      (k c : ℕ) → Live g v k → c < g.items → (k ≡ n → c ≡ b → ⊥) → (k ≡ h → c ≡ b → ⊥) → back_copy (w.entry k c) ≡ back_copy (v.entry k c)
  pub moves : Moves n h b v w
