-- What a whole write leaves in every entry.
use Prim.Native.Nat.{ℕ}
use mathlib.Core.Path.{◌≡◌}
use mathlib.Core.Bool.{cond}
use lib.Dec.{eqb}
use Rattle.table.specs.declared.geometry.Geometry.{Geometry}
use Rattle.table.specs.Words.{state_word, invalid, modified}
use Rattle.table.specs.Changes.{checkpoint_of}
use Rattle.table.specs.View.{Entry, View, current}
use Rattle.calls.specs.Write.{kept_after}
use Rattle.homes.proofs.Laws.Kept.{Live}

-- the number of an entry's Shared-CK, or 0
abbrev pub number : Entry → ℕ
number e = checkpoint_of (current e)

-- an entry whose Shared-CK, if it had one, moved to the kept place, with this current place and value
abbrev pub away : Entry → ℕ → ℕ → Entry
away e c x =
    record { state = state_word c (kept_after e.state); value = x; kept_value = cond (eqb (number e) 0) e.kept_value e.value }

-- x written at node n, item b: v at entry, w at the end
pub record Written (g : Geometry) (n b x : ℕ) (v w : View) : Type 0 where
  pub own : w.entry n b ≡ away (v.entry n b) modified x
  pub others : (k : ℕ) → Live g v k → (k ≡ n → ⊥) → w.entry k b ≡ away (v.entry k b) invalid (v.entry k b).value
  pub dead : (k : ℕ) → v.mark k ≡ 0 → (k ≡ n → ⊥) → w.entry k b ≡ v.entry k b
  pub rest : (k c : ℕ) → (c ≡ b → ⊥) → w.entry k c ≡ v.entry k c
  pub marks : w.mark ≡ v.mark
