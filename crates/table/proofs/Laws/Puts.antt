-- Functions that are set at one place: to prove a thing of one, prove it of the new value there, and of the old one elsewhere.
use Prim.Native.Nat.{ℕ}
use mathlib.Core.Path.{◌≡◌, refl}
use mathlib.Core.Bool.{Bool, true, false, cond, ◌&&◌}
use lib.Dec.{eqb}
use borrow.Author.Tests.{eqb-true, eqb-false, eq-eqb}
use Rattle.counting.proofs.Laws.Tests.{no_both, both}
use Rattle.table.specs.View.{Entry, put₁, put₂}

pub put₁_case : (P : ℕ → Type 0) (f : ℕ → ℕ) (n x n' : ℕ) → (n' ≡ n → P x) → ((n' ≡ n → ⊥) → P (f n')) → P (put₁ f n x n')
put₁_case P f n x n' here off = go (eqb n' n) refl
  where
    go : (t : Bool) → eqb n' n ≡ t → P (cond t x (f n'))
    go true e = here (eqb-true n' n e)
    go false e = off (eqb-false n' n e)

pub put₂_case :
    (P : Entry → Type 0) (f : ℕ → ℕ → Entry) (n b : ℕ) (x : Entry) (n' b' : ℕ) → (n' ≡ n → b' ≡ b → P x)
    → ((n' ≡ n → b' ≡ b → ⊥) → P (f n' b')) → P (put₂ f n b x n' b')
put₂_case P f n b x n' b' here off = go (eqb n' n && eqb b' b) refl
  where
    go : (t : Bool) → (eqb n' n && eqb b' b) ≡ t → P (cond t x (f n' b'))
    go true e = let h = both (eqb n' n) e in here (eqb-true n' n h.0) (eqb-true b' b h.1)
    go false e = off (λ p q. no_both (rw (eq-eqb n' n p, eq-eqb b' b q) refl) e)

pub put₂_same : (f : ℕ → ℕ → Entry) (n b : ℕ) (x : Entry) → put₂ f n b x n b ≡ x
put₂_same f n b x = put₂_case (λ y. y ≡ x) f n b x n b (λ _ _. refl) (λ h. absurd (h refl refl))

pub put₂_other : (f : ℕ → ℕ → Entry) (n b : ℕ) (x : Entry) (n' b' : ℕ) → (n' ≡ n → b' ≡ b → ⊥) → put₂ f n b x n' b' ≡ f n' b'
put₂_other f n b x n' b' h = put₂_case (λ y. y ≡ f n' b') f n b x n' b' (λ p q. absurd (h p q)) (λ _. refl)
