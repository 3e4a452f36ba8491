-- The entries of a row that hold something: as they are gathered, and the next one after an item.
use Rattle.std.specs.Prelude.{ℕ, ◌+◌, ◌*◌, ◌≤◌, ◌≡◌, List, length}
use Rattle.entries.specs.code.SurveyRow.{Gathered}

-- ---- gathering

-- the entries below b are gathered
pub record Gathering (s : ℕ → ℕ) (b : ℕ) (list₀ list : List ℕ) (count : ℕ) : Type 0 where
  pub row : Gathered s b list count
  pub few : count ≤ b
  pub size : length list ≡ length list₀

-- entries are gathered on from an offset, n of them
pub record GatheredMore (s : ℕ → ℕ) (offset n : ℕ) (list list' : List ℕ) (count r : ℕ) : Type 0 where
  pub gathers : {b : ℕ} {list₀ : List ℕ} → offset ≡ 3 * b → b + n ≤ length list₀ → Gathering s b list₀ list count → Gathering s (b + n) list₀ list' r
  pub few : r ≤ count + n
  pub size : length list' ≡ length list
