-- "Recover, with a lost node or none: the lost mark to 0, stored even if it is 0 already, so that a dead node may be named. Survivors are the live
-- nodes but the lost one."
use Rattle.std.specs.Prelude.{ℕ, ◌-◌, ◌*◌, zero, suc, max, Bool, false, ◌&&◌, ◌||◌, cond, List, [], ◌∷◌, eqb, leb, ltb, None, Option, Some}
use Rattle.counting.specs.Counting.{count, exists}
use Rattle.table.specs.declared.geometry.Geometry.{Geometry}
use Rattle.table.specs.Words.{number_of, mark_word}
use Rattle.table.specs.Stores.{Store, mark_store}
use Rattle.table.specs.View.{View, live, updates, marks_to}

-- "the lost mark to 0, stored even if it is 0 already"
abbrev pub lost_stores : Option ℕ → List Store
lost_stores None = []
lost_stores (Some n) = mark_store n 0 ∷ []

-- the table as if the lost node were dead: its live nodes are the survivors, and nothing below looks at another node
abbrev pub survivors : Option ℕ → View → View
survivors lost v = updates (lost_stores lost) v

-- "k survivors"
unfoldable pub survivor_count : Geometry → View → ℕ
survivor_count g w = count (live w) g.nodes

-- a survivor carries this number
abbrev pub carries : Geometry → ℕ → View → Bool
carries g number w = exists (λ n. live w n && eqb (number_of (w.mark n)) number) g.nodes

-- 4: "node ≥ N"
abbrev pub lost_outside : Geometry → Option ℕ → Bool
lost_outside g None = false
lost_outside g (Some n) = leb g.nodes n

-- ---- "14 under two survivors, or (k − 1) × F < 2 × M − 1 with k survivors"

-- 14 with k survivors
unfoldable pub too_few_with : Geometry → ℕ → Bool
too_few_with g k = ltb k 2 || ltb ((k - 1) * g.frames) (2 * g.items - 1)

unfoldable pub too_few : Geometry → View → Bool
too_few g w = too_few_with g (survivor_count g w)

-- ---- the node that a Recover names, or none, by a number and a node

-- "in Recover 1 means none lost". Who takes no number but 0 and 1 says so before.
unfoldable pub lost_by : ℕ → ℕ → Option ℕ
lost_by none n = cond (eqb none 0) (Some n) None

-- ---- "Last, live marks ascending: phase 0 and the survivors' largest number."

unfoldable pub largest : (ℕ → ℕ) → ℕ → ℕ
largest f zero = 0
largest f (suc n) = max (largest f n) (f n)

-- a dead node's mark is 0, and so is its number
unfoldable pub largest_number : Geometry → View → ℕ
largest_number g w = largest (λ n. number_of (w.mark n)) g.nodes

unfoldable pub closing_stores : Geometry → View → List Store
closing_stores g w = marks_to g w (λ x. mark_word 0 (largest_number g w))
