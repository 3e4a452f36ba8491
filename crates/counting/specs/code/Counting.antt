-- What a function promises that counts a test.
use Rattle.std.specs.Prelude.{◌≡◌, ℕ, ◌≤◌, Bool}
use Rattle.counting.specs.Counting.{one}

-- what the code counts for a test
pub record Counted (b : Bool) (r : ℕ) : Type 0 where
  pub is : r ≡ one b
  pub small : r ≤ 1
