-- Tests, sums, counts and searches over 0, 1, .. and n − 1: the nodes or the items.
use Rattle.std.specs.Prelude.{ℕ, zero, suc, ◌+◌, Bool, true, false, cond, ◌&&◌, ◌||◌, nat_lt}

-- the test holds of each
unfoldable pub every : (ℕ → Bool) → ℕ → Bool
every p zero = true
every p (suc n) = every p n && p n

unfoldable pub sum : (ℕ → ℕ) → ℕ → ℕ
sum f zero = 0
sum f (suc n) = sum f n + f n

abbrev pub one : Bool → ℕ
one true = 1
one false = 0

-- of how many it holds
unfoldable pub count : (ℕ → Bool) → ℕ → ℕ
count p zero = 0
count p (suc n) = count p n + one (p n)

-- ---- whether a test holds of one

unfoldable pub exists : (ℕ → Bool) → ℕ → Bool
exists p zero = false
exists p (suc n) = exists p n || p n

-- ---- the first that passes

-- found among those below n, or n while there is none: with n's own test it is known below n + 1
unfoldable pub first_or : ℕ → ℕ → Bool → ℕ
first_or found n test = cond (nat_lt found n) found (cond test n (suc n))

-- the first of 0, 1, .. and n − 1 that passes; n if there is none
unfoldable pub first : (ℕ → Bool) → ℕ → ℕ
first f zero = 0
first f (suc n) = first_or (first f n) n (f n)
