-- `Geometry::entry_at` meets its contract: of narrow numbers no product overflows. Assumes nothing.
use Prim.Native.Nat.{◌*◌, ◌≤◌}
use native.Mathlib.Omega.{arith}
use Rattle.table.proofs.Laws.Geometry.{product}
use Rattle.table.proofs.geometry.Geometry.entry_at.Goals as goal

pub overflow_mul-cell : goal.overflow_mul-cell
overflow_mul-cell c =
    let cells : let s = c.args in s.node * s.self.items ≤ 255 * 65535 = product 255 65535 (omega arith) (omega arith) in
    let h = cells in omega arith

pub overflow_add-cell : goal.overflow_add-cell
overflow_add-cell c =
    let cells : let s = c.args in s.node * s.self.items ≤ 255 * 65535 = product 255 65535 (omega arith) (omega arith) in
    let h = cells in omega arith

pub overflow_mul-result : goal.overflow_mul-result
overflow_mul-result c =
    let cells : let s = c.args in s.node * s.self.items ≤ 255 * 65535 = product 255 65535 (omega arith) (omega arith) in
    let h = cells in omega arith

pub overflow_add-result-2 : goal.overflow_add-result-2
overflow_add-result-2 c =
    let cells : let s = c.args in s.node * s.self.items ≤ 255 * 65535 = product 255 65535 (omega arith) (omega arith) in
    let h = cells in omega arith

pub returns : goal.returns
returns c =
    let cells : let s = c.args in s.node * s.self.items ≤ 255 * 65535 = product 255 65535 (omega arith) (omega arith) in
    let h = cells in record { at = omega arith; small = omega arith }
