-- What the functions of Commit promise: what it finds before its first store, and how many of its stores are a node's.
use Rattle.std.specs.Prelude.{ℕ, ◌+◌, cond}
use Rattle.counting.specs.Counting.{count}
use Rattle.table.specs.declared.geometry.Geometry.{Geometry}
use Rattle.table.specs.View.{View, live}
use Rattle.checkpoints.specs.Checkpoint.{to_commit}

-- ---- a node's stores: two of a live node's mark, and one in each of its entries where Precommit or Inv-CK stands

unfoldable pub node_length : Geometry → View → ℕ → ℕ
node_length g v n = cond (live v n) (2 + count (λ b. to_commit (v.entry n b).state) g.items) 0
