-- FRAMES FOR FOUR COPIES, as one type: "Create is never refused with 11 while at most one node is dead." (K2)
use Rattle.std.specs.Prelude.{ℕ, ◌*◌, ◌≤◌, ◌≡◌, ◌≢◌, not, List, Ok}
use Rattle.counting.specs.Counting.{count}
use Rattle.table.specs.declared.geometry.Geometry.{Geometry}
use Rattle.table.specs.declared.answers.Refusal.{Refusal}
use Rattle.table.specs.View.{View, view, live}
use Rattle.table.specs.Answers.{refuse, refusal_number}
use Rattle.entries.specs.Check.{fault_of}
use Rattle.entries.specs.Dirty.{dirty}
use Rattle.checkpoints.specs.Create.{create_of}

abbrev pub dead_nodes : Geometry → View → ℕ
dead_nodes g v = count (λ n. not (live v n)) g.nodes

-- the items that are "dirty .. not yet created"
abbrev pub dirty_items : Geometry → View → ℕ
dirty_items g v = count (dirty g v) g.items

-- ---- THE CLAIM

-- of every table that passes the table checks, whether calls lead to it or not
pub record CreateRoom : Type 0 where
  pub never_11 :
      (t : List ℕ) (g : Geometry) → fault_of t ≡ Ok g → dead_nodes g (view g t) ≤ 1
      → (r : Refusal) → create_of t ≡ refuse r → refusal_number r ≢ 11
  -- nor with more of them dead, where a node has a frame for every place
  pub ample_11 :
      (t : List ℕ) (g : Geometry) → fault_of t ≡ Ok g → 2 * g.items ≤ g.frames
      → (r : Refusal) → create_of t ≡ refuse r → refusal_number r ≢ 11
