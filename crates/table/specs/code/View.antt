-- What the readers of an entry promise.
use Rattle.std.specs.Prelude.{ℕ, ◌+◌, cond, List, get_or}
use Rattle.table.specs.declared.geometry.Geometry.{Geometry}
use Rattle.table.specs.Geometry.{entry_at}
use Rattle.table.specs.View.{there}

-- ---- the view of a table

-- word k of an entry
unfoldable pub entry_word : Geometry → List ℕ → ℕ → ℕ → ℕ → ℕ
entry_word g t n b k = cond (there g n b) (get_or t (entry_at g n b + k) 0) 0
