-- The occupied entries of a node, as the code lists them, and the passes over a list in the place of all items.
use Rattle.std.specs.Prelude.{ℕ, zero, suc, ◌+◌, ◌*◌, ◌<◌, ◌≤◌, ◌≡◌, List, length, get_or, Bool}
use Rattle.table.specs.declared.geometry.Geometry.{Geometry}
use Rattle.table.specs.Geometry.{words_of}
use Rattle.table.specs.View.{View}
use Rattle.entries.specs.code.Row.{row_state}
use Rattle.counting.specs.Counting.{every, sum}
use Rattle.table.specs.Words.{state_form}
use Rattle.entries.specs.Frames.{frames_in}

-- the entry is there, and all words of the table
abbrev pub HasEntry : Geometry → List ℕ → ℕ → ℕ → Type 0
HasEntry g t n b = (n < g.nodes) × ((b < g.items) × (words_of g ≤ length t))

-- the state word of node n's entry of item b
abbrev pub state_in : View → ℕ → ℕ → ℕ
state_in v n b = (v.entry n b).state

-- the item after the first k of a list
unfoldable pub reached : List ℕ → ℕ → ℕ
reached l zero = 0
reached l (suc k) = get_or l k 0 + 1

-- the first r of the list are the items below m at which f is not 0, ascending: before each of them, and after the last, f is 0
pub record Listed (f : ℕ → ℕ) (m : ℕ) (l : List ℕ) (r : ℕ) : Type 0 where
  pub few : r ≤ m
  pub room : r ≤ length l
  pub all : reached l r ≤ m
  pub ascends : (k : ℕ) → k < r → reached l k ≤ get_or l k 0
  pub below : (k : ℕ) → k < r → get_or l k 0 < m
  pub gap : (k : ℕ) → k < r → (j : ℕ) → reached l k ≤ j → j < get_or l k 0 → f j ≡ 0
  pub rest : (j : ℕ) → reached l r ≤ j → j < m → f j ≡ 0

-- a list of just these items
abbrev pub ListedAll : (ℕ → ℕ) → ℕ → List ℕ → Type 0
ListedAll f m l = Listed f m l (length l)

pub record Listing (f : ℕ → ℕ) (m : ℕ) (l l' : List ℕ) (r : ℕ) : Type 0 where
  pub listed : Listed f m l' r
  pub size : length l' ≡ length l

-- ---- the list grows

-- the items of a row are listed on from an item whose state word is at a place, n of them
pub record ListedMore (t : List ℕ) (at item n : ℕ) (l l' : List ℕ) (r r' : ℕ) : Type 0 where
  pub lists :
      (start : ℕ) {l₀ : List ℕ} → at ≡ start + 3 * item → item + n ≤ length l₀ → Listing (row_state t start) item l₀ l r
      → Listing (row_state t start) (item + n) l₀ l' r'
  pub few : r' ≤ r + n
  pub size : length l' ≡ length l

-- ---- a word for each item, changed along a row: the words of the items before i are as h makes them

pub record Rowed (h : ℕ → ℕ → ℕ) (i : ℕ) (s s' : List ℕ) : Type 0 where
  pub made : (j : ℕ) → j < i → get_or s' j 0 ≡ h j (get_or s j 0)
  pub kept : (j : ℕ) → i ≤ j → get_or s' j 0 ≡ get_or s j 0
  pub size : length s' ≡ length s

-- ---- the word forms and the frames of a survivor, by a pass over its occupied entries.

-- the state words before item i are passed
pub record RowTo (v : View) (n i : ℕ) (forms : Bool) (frames : ℕ) : Type 0 where
  pub formed : forms ≡ every (λ b. state_form (state_in v n b)) i
  pub in_use : frames ≡ sum (λ b. frames_in (state_in v n b)) i
  pub few : frames ≤ 2 * i
