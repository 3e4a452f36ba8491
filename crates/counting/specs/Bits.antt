-- A word as a mask: bit k stands for number k.
use Rattle.std.specs.Prelude.{ℕ, ◌-◌, ◌/◌, ◌%◌, ◌^◌, Bool, ◌==◌, bit_and}
use Rattle.std.specs.Int.Count.{count_trailing_zeros}

-- bit k is set
unfoldable pub bit_at : ℕ → ℕ → Bool
bit_at m k = m / 2 ^ k % 2 == 1

-- the lowest bit that is set; 64 if none is
unfoldable pub lowest_bit : ℕ → ℕ
lowest_bit m = count_trailing_zeros 64 m

-- the mask without that bit
unfoldable pub clear_lowest : ℕ → ℕ
clear_lowest m = bit_and m (m - 1)
