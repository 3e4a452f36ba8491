-- Stages that each read what the ones before it stored: what holds before each stage holds through all of them.
use Prim.Native.Nat.{ℕ, zero, suc, ◌<◌}
use mathlib.Core.List.{List, ◌++◌}
use native.Mathlib.Omega.{arith}
use Rattle.table.specs.declared.geometry.Geometry.{Geometry}
use Rattle.table.specs.Stores.{Store}
use Rattle.table.specs.View.{View, updates}
use Rattle.table.proofs.Laws.Via.{Via, done, step}
use Rattle.recovery.specs.Numbering.{staged}

module _ {g : Geometry} {P : View → Type 0} where
  -- one list, then another that is made for the view that it leaves
  pub via_on :
      {B C : View → Type 0} {v : View} {xs ys : List Store} → Via g P B v xs → (P (updates xs v) → B (updates xs v) → Via g P C (updates xs v) ys)
      → Via g P C v (xs ++ ys)
  via_on (done p b) k = k p b
  via_on (step p w h) k = step p w (via_on h k)

  -- with I before stage i
  pub via_staged :
      (I : ℕ → View → Type 0) (n : ℕ) (f : ℕ → View → List Store)
      → ((i : ℕ) → i < n → (w : View) → P w → I i w → Via g P (I (suc i)) w (f i w))
      → {v : View} → P v → I 0 v → Via g P (I n) v (staged f n v)
  unfolding staged
  via_staged I zero f h p b = done p b
  via_staged I (suc n) f h {v} p b = via_on (via_staged I n f (λ i l. h i (omega arith)) p b) (h n (omega arith) (updates (staged f n v) v))

  -- at the end both hold
  pub via_end : {B : View → Type 0} {v : View} {ss : List Store} → Via g P B v ss → P (updates ss v) × B (updates ss v)
  via_end (done p b) = (p, b)
  via_end (step p w h) = via_end h
