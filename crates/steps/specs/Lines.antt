-- The bytes of a record's line: "A line: record counted from 0, answer (0 if carried out), value, stores."
use Rattle.std.specs.Prelude.{◌≡◌, ℕ, zero, suc, ◌/◌, ◌%◌, cond, List, [], ◌∷◌, ◌++◌, length, drop, nat_lt}
use Rattle.io.specs.Digits.{hex_digit_ascii}
use Rattle.table.specs.declared.answers.Numbers.{Numbers}

-- a number in decimal, of at most k digits: one digit, or those of a tenth of it and then the last
unfoldable pub digits_in : ℕ → ℕ → List ℕ
digits_in zero n = []
digits_in (suc k) n = cond (nat_lt n 10) (hex_digit_ascii n ∷ []) (digits_in k (n / 10) ++ (hex_digit_ascii (n % 10) ∷ []))

-- 64 bits have at most 20
abbrev pub decimal_of : ℕ → List ℕ
decimal_of n = digits_in 20 n

-- a number and the byte that ends it: a space, or the end of the line
abbrev pub field : ℕ → ℕ → List ℕ
field n end = decimal_of n ++ (end ∷ [])

abbrev pub space : ℕ
space = 32

abbrev pub newline : ℕ
newline = 10

-- as the listing of document 01 has it: "0 0 0 13"
unfoldable pub line_bytes : ℕ → Numbers → List ℕ
line_bytes number n =
    field number space ++ (field n.answer space ++ (field n.value space ++ field n.stores newline))

-- THE CONTRACT of what puts bytes at the start of a buffer: they stand there, the rest is as it was, and the answer is
-- how many they are
pub record BytesPut (bytes out out' : List ℕ) (r : ℕ) : Type 0 where
  pub buffer : out' ≡ bytes ++ drop (length bytes) out
  pub count : r ≡ length bytes
