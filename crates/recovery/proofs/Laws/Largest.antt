-- The largest of f 0, f 1, .. and f (n − 1), and the survivors' largest number.
use Prim.Native.Nat.{ℕ, zero, suc, ◌≤◌, ◌<◌}
use mathlib.Core.Path.{◌≡◌}
use native.Mathlib.Omega.{arith}
use Rattle.counting.proofs.Laws.Counting.{below}
use Rattle.survivors.specs.Survivors.{largest, largest_number}
use lib.Dec.{eqb}
use borrow.Author.Tests.{eqb-true, not-false}
use Rattle.counting.proofs.Laws.Tests.{by_cases}
use Rattle.table.specs.declared.geometry.Geometry.{Geometry}
use Rattle.table.specs.Words.{number_of}
use Rattle.table.specs.View.{View, live}
use Rattle.homes.proofs.Laws.Kept.{Live, test_live}

pub largest_at : (n : ℕ) (f : ℕ → ℕ) (m : ℕ) → m < n → f m ≤ largest f n
unfolding largest
largest_at zero f m h = absurd (omega arith)
largest_at (suc n) f m h = below (λ m. f m ≤ largest f (suc n)) h (λ l. omega (arith, largest_at n f m l)) (omega arith)

pub largest_least : (n : ℕ) (f : ℕ → ℕ) (x : ℕ) → ((m : ℕ) → m < n → f m ≤ x) → largest f n ≤ x
unfolding largest
largest_least zero f x h = omega arith
largest_least (suc n) f x h = omega (arith, largest_least n f x (λ m l. h m (omega arith)), h n (omega arith))

pub largest_mono : (n : ℕ) (f h : ℕ → ℕ) → ((m : ℕ) → m < n → f m ≤ h m) → largest f n ≤ largest h n
unfolding largest
largest_mono zero f h l = omega arith
largest_mono (suc n) f h l = omega (arith, largest_mono n f h (λ m k. l m (omega arith)), l n (omega arith))

-- where each stays or rises to no more than the largest, the largest stays
pub largest_stays : (n : ℕ) (f h : ℕ → ℕ) → ((m : ℕ) → m < n → f m ≤ h m) → ((m : ℕ) → m < n → h m ≤ largest f n) → largest h n ≡ largest f n
largest_stays n f h l u = omega (arith, largest_mono n f h l, largest_least n h (largest f n) u)

-- no survivor has more, and one has it
pub largest_is :
    (g : Geometry) (w : View) (number : ℕ) → ((n : ℕ) → Live g w n → number_of (w.mark n) ≤ number) → (m : ℕ) → Live g w m
    → number_of (w.mark m) ≡ number → largest_number g w ≡ number
unfolding largest_number
largest_is g w number most m l e =
    omega (
      arith,
      largest_at g.nodes (λ n. number_of (w.mark n)) m l.there,
      largest_least g.nodes (λ n. number_of (w.mark n)) number each,
      e,
    )
  where
    -- a dead node's mark is 0
    each : (n : ℕ) → n < g.nodes → number_of (w.mark n) ≤ number
    each n h = by_cases (live w n) (λ t. most n (test_live g w n h t))
        (λ t. let z : w.mark n ≡ 0 = eqb-true (w.mark n) 0 (not-false (eqb (w.mark n) 0) t) in rw z (omega arith))
