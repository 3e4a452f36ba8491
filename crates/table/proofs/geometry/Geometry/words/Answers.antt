-- `Geometry::words` meets its contract: of narrow numbers no product overflows. Assumes nothing.
use Prim.Native.Nat.{◌*◌, ◌≤◌}
use native.Mathlib.Omega.{arith}
use Rattle.table.proofs.Laws.Geometry.{product}
use Rattle.table.proofs.geometry.Geometry.words.Goals as goal

pub overflow_mul-result : goal.overflow_mul-result
overflow_mul-result c =
    let cells : let s = c.args in s.self.nodes * s.self.items ≤ 255 * 65535 = product 255 65535 (omega arith) (omega arith) in
    let h = cells in omega arith

pub overflow_mul-result-2 : goal.overflow_mul-result-2
overflow_mul-result-2 c =
    let cells : let s = c.args in s.self.nodes * s.self.items ≤ 255 * 65535 = product 255 65535 (omega arith) (omega arith) in
    let h = cells in omega arith

pub overflow_add-result-2 : goal.overflow_add-result-2
overflow_add-result-2 c =
    let cells : let s = c.args in s.self.nodes * s.self.items ≤ 255 * 65535 = product 255 65535 (omega arith) (omega arith) in
    let h = cells in omega arith
