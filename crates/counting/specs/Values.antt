-- Values that should be equal, met one by one.
use Rattle.std.specs.Prelude.{ℕ, zero, suc, Bool, true, false, cond, ◌&&◌, ◌==◌}

-- whether there was one, the first, and whether all equal it
pub record Values : Type 0 where
  pub seen : Bool
  pub first : ℕ
  pub equal : Bool

-- one value more
abbrev pub met_of : Values → ℕ → Values
met_of s x =
    cond s.seen (record { seen = true; first = s.first; equal = s.equal && (x == s.first) })
    (record { seen = true; first = x; equal = s.equal })

abbrev pub no_values : Values
no_values = record { seen = false; first = 0; equal = true }

-- the values f of those below n that the test p picks
unfoldable pub values_of : ℕ → (ℕ → Bool) → (ℕ → ℕ) → Values
values_of zero p f = no_values
values_of (suc n) p f = cond (p n) (met_of (values_of n p f) (f n)) (values_of n p f)
