-- The lowest dirty item by the tallies of a survey: where the entries of the live nodes are of good form, it is that of the definition.
use Rattle.std.specs.Prelude.{ℕ, ◌*◌, ◌%◌, ◌^◌, ◌&&◌, cond, Option, Some, None, List, get_or}
use Rattle.counting.specs.Counting.{every, first}
use Rattle.table.specs.declared.geometry.Geometry.{Geometry}
use Rattle.table.specs.View.{View}
use Rattle.entries.specs.Dirty.{dirty_item}
use Rattle.entries.specs.Sound.{nodes_sound, items_sound, sound}
use Rattle.entries.specs.code.Survey.{kind_test, owns_test}

-- ---- the tests of the tallies, from the last item down

-- where each item passes, the lowest with an Owner or a Modified, or the number of items
unfoldable pub kinds_found : List ℕ → ℕ → ℕ → Option ℕ
kinds_found notes items phase =
    cond
    (every (λ b. kind_test phase (get_or notes (3 * b) 0 % 2 ^ 45)) items)
    (Some (first (λ b. owns_test (get_or notes (3 * b) 0)) items))
    None

-- ---- what is found of a table

-- where nodes and items are sound, the lowest dirty item that is not created, or the number of items
unfoldable pub found : Geometry → View → ℕ → Option ℕ
found g v phase = cond (nodes_sound g v && items_sound g v phase) (Some (dirty_item g v)) None

-- where the table is
unfoldable pub table_found : Geometry → View → Option ℕ
table_found g v = cond (sound g v) (Some (dirty_item g v)) None
