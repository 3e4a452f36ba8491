-- The laws of `specs/Sound.antt`.
use mathlib.Core.Path.{◌≡◌}
use mathlib.Core.Bool.{Bool, true, ◌&&◌}
use Prim.Native.Nat.{ℕ}
use borrow.Author.Tests.{eq-eqb, ne_eqb}
use Rattle.table.specs.declared.geometry.Geometry.{Geometry}
use Rattle.table.specs.View.{View}
use Rattle.entries.specs.Frames.{frames_fit}
use Rattle.entries.specs.Sound.{states_form, node_sound}

-- ---- the ways of the code: a dead node, a live one

module _ (g : Geometry) (v : View) (n mark : ℕ) (e : mark ≡ v.mark n) where
  pub node_dead : mark ≡ 0 → true ≡ node_sound g v n
  unfolding node_sound
  node_dead d = simp (← e, eq-eqb mark 0 d)

  pub node_live : (mark ≡ 0 → ⊥) → {forms frames : Bool} → forms ≡ states_form g v n → frames ≡ frames_fit g v n → (forms && frames) ≡ node_sound g v n
  unfolding node_sound
  node_live d f u = simp (← e, ne_eqb mark 0 d, f, u)
