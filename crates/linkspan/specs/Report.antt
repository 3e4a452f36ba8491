-- What a function of the library hands out, of the plan of the call that it was asked for.
use Rattle.std.specs.Prelude.{ℕ, ◌+◌, ◌*◌, ◌≤◌, ◌≡◌, List, cond, ltb, length, None, Option, Some}
use Rattle.table.specs.declared.answers.Numbers.{Numbers}
use Rattle.table.specs.Answers.{Plan, malformed_numbers, numbers_at, table_of, refuse, nothing_left, carry}
use Rattle.recovery.specs.Recover.{scratch_after, recover_of}
use Rattle.homes.specs.Places.{place_by}
use Rattle.homes.specs.Evict.{evict_of}
use Rattle.survivors.specs.Survivors.{lost_by}
use Rattle.table.specs.Geometry.{entry_words, entry_at, geometry_of, words_of}
use Rattle.layout.specs.Stretch.{stretch_of}
use Rattle.table.specs.declared.geometry.Geometry.{Geometry}

-- what was asked for: a number that stands for no argument of the call, or a call with this plan
pub data Asked : Type 0 where
  malformed : Asked
  planned : Plan → Asked

abbrev pub asked_numbers : Asked → ℕ → Numbers
asked_numbers malformed limit = malformed_numbers
asked_numbers (planned p) limit = numbers_at p limit

abbrev pub asked_table : Asked → ℕ → List ℕ → List ℕ
asked_table malformed limit t = t
asked_table (planned p) limit t = table_of p limit t

abbrev pub asked_scratch : Asked → List ℕ → List ℕ
asked_scratch malformed s = s
asked_scratch (planned p) s = scratch_after p s

-- numbers as a C program gets them: the result, and the two words that it lent
pub record HandedOut (n : Numbers) (value stores r : ℕ) : Type 0 where
  pub answered : r ≡ n.answer
  pub valued : value ≡ n.value
  pub counted : stores ≡ n.stores

-- THE CONTRACT of every call of the library: its numbers and the table, by what was asked for
pub record Reports (a : Asked) (limit : ℕ) (t t' : List ℕ) (value stores r : ℕ) : Type 0 where
  pub handed : HandedOut (asked_numbers a limit) value stores r
  pub table : t' ≡ asked_table a limit t

-- and Recover's, with the scratch
pub record RecoverReports (a : Asked) (limit : ℕ) (t t' s s' : List ℕ) (value stores r : ℕ) : Type 0 where
  pub reports : Reports a limit t t' value stores r
  pub scratch : s' ≡ asked_scratch a s

-- and of a question, which stores nothing and takes no limit: its number, and the value that it tells
pub record Tells (p : Plan) (value r : ℕ) : Type 0 where
  pub answered : r ≡ (numbers_at p 0).answer
  pub valued : value ≡ (numbers_at p 0).value

-- ---- numbers that stand for an argument: a place is 0 or 1, and so is whether a node was lost. Any other number is malformed.

-- "place 1 (0 current, 1 kept; in Recover 1 means none lost)"
unfoldable pub evict_asked : List ℕ → ℕ → ℕ → ℕ → Asked
evict_asked t n b place = cond (ltb 1 place) malformed (planned (evict_of t n b (place_by place)))

unfoldable pub recover_asked : List ℕ → ℕ → ℕ → ℕ → Asked
recover_asked t none lost scratch = cond (ltb 1 none) malformed (planned (recover_of t (lost_by none lost) scratch))

-- ---- Stretch for a C program: where a node's entries lie in its own table, as their first word and how many they are.

-- "a refusal gives an empty stretch"
abbrev pub part_start : ℕ → Plan → ℕ
part_start n (refuse x) = 0
part_start n nothing_left = 0
part_start n (carry g value ss) = entry_at g n 0

abbrev pub part_words : Plan → ℕ
part_words (refuse x) = 0
part_words nothing_left = 0
part_words (carry g value ss) = entry_words * g.items

-- THE CONTRACT of Stretch in the library: its number, and where the words lie, never past the table's end
pub record PartReports (t : List ℕ) (n start words r : ℕ) : Type 0 where
  pub answered : r ≡ (numbers_at (stretch_of t n) 0).answer
  pub started : start ≡ part_start n (stretch_of t n)
  pub counted : words ≡ part_words (stretch_of t n)
  pub within : start + words ≤ length t

-- ---- the words that a table of so many nodes and items needs. Frames need no words; as many are asked for as a node
-- has places, F = 2 × M. Every geometry of these nodes and items has these words (`words_of_any`), and where the number
-- is 0 there is none (`no_words`).

unfoldable pub made_words : Option Geometry → ℕ
made_words (Some g) = words_of g
made_words None = 0

unfoldable pub words_for : ℕ → ℕ → ℕ
words_for n m = made_words (geometry_of n m (2 * m))
