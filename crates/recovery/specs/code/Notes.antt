-- The recovery copies of an item on a side, node by node.
use Rattle.std.specs.Prelude.{ℕ, ◌+◌, ◌*◌, ◌≤◌, ◌<◌, Bool, cond, not, ◌||◌, ◌≡◌, List, eqb, length, get_or}
use Rattle.counting.specs.Values.{Values, values_of}
use Rattle.table.specs.View.{View, Entry}
use Rattle.table.specs.Copies.{copy_value, copy_number}
use Rattle.recovery.specs.Sides.{copy_on, has_copy}
use Rattle.counting.specs.Counting.{every}
use Rattle.table.specs.declared.geometry.Geometry.{Geometry}
use Rattle.recovery.specs.code.Rows.{Rowed}
use Rattle.recovery.specs.code.Tallies.{number_weight, step_of}

-- ---- the recovery copies of an item

-- those of the nodes below n
unfoldable pub copies_to : Bool → View → ℕ → ℕ → Values
copies_to forward w b n = values_of n (has_copy forward w b) (λ k. copy_value (copy_on forward (w.entry k b)))

-- ---- the recovery copies of each item, noted by rows: the first value, and a tally, which is 0 while there is none.

abbrev pub first_met : Bool → ℕ → ℕ → ℕ → ℕ
first_met has tally first x = cond has (cond (eqb tally 0) x first) first

abbrev pub agrees_met : Bool → ℕ → ℕ → ℕ → Bool
agrees_met has tally first x = not has || (eqb tally 0 || eqb x first)

-- ---- a node's recovery copies on a side

-- an entry has one
abbrev pub has_on : Bool → Entry → Bool
has_on forward e = not (eqb (copy_number (copy_on forward e)) 0)

abbrev pub has_at : Bool → View → ℕ → ℕ → Bool
has_at forward v n j = has_on forward (v.entry n j)

abbrev pub value_at : Bool → View → ℕ → ℕ → ℕ
value_at forward v n j = copy_value (copy_on forward (v.entry n j))

abbrev pub weight_at : Bool → View → ℕ → ℕ → ℕ
weight_at forward v n j = number_weight (copy_number (copy_on forward (v.entry n j))) * step_of n

-- the items before i are noted
pub record NotedTo (forward : Bool) (v : View) (n : ℕ) (firsts tallies : List ℕ) (i : ℕ) (firsts' tallies' : List ℕ) (agree : Bool) : Type 0 where
  pub firsts_row : Rowed (λ j y. first_met (has_at forward v n j) (get_or tallies j 0) y (value_at forward v n j)) i firsts firsts'
  pub tallies_row : Rowed (λ j z. z + weight_at forward v n j) i tallies tallies'
  pub agrees : agree ≡ every (λ j. agrees_met (has_at forward v n j) (get_or tallies j 0) (get_or firsts j 0) (value_at forward v n j)) i

-- ---- all nodes

-- the recovery copies of the survivors below n
pub record Noted (g : Geometry) (forward : Bool) (w : View) (n : ℕ) (firsts tallies : List ℕ) : Type 0 where
  pub first : (j : ℕ) → j < g.items → get_or firsts j 0 ≡ (copies_to forward w j n).first
  pub seen : (j : ℕ) → j < g.items → not (eqb (get_or tallies j 0) 0) ≡ (copies_to forward w j n).seen
  pub firsts_room : g.items ≤ length firsts
  pub tallies_room : g.items ≤ length tallies

-- whether those of each item are equal
unfoldable pub equal_to : Geometry → Bool → View → ℕ → Bool
equal_to g forward w n = every (λ j. (copies_to forward w j n).equal) g.items
