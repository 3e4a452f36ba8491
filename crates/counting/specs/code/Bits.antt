-- The mask that a test gives.
use Rattle.std.specs.Prelude.{ℕ, zero, suc, ◌+◌, ◌*◌, Bool}
use Rattle.counting.specs.Counting.{one}

-- the mask of a test: bit k is the test of b + k, for k below n
unfoldable pub mask_of : (ℕ → Bool) → ℕ → ℕ → ℕ
mask_of p b zero = 0
mask_of p b (suc n) = one (p b) + 2 * mask_of p (suc b) n
