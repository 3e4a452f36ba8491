-- `Geometry::new` meets its contract. Assumes nothing.
use mathlib.Core.Bool.{true, false}
use mathlib.Core.Path.{◌≡◌}
use Prim.Native.Nat.{◌*◌, ◌-◌, ◌≤◌}
use native.Mathlib.Omega.{arith}
use Rattle.table.specs.Geometry.{in_ranges, four_copies, geometry_of}
use Rattle.table.proofs.Laws.Geometry.{product, sized, Sized}
use Rattle.table.proofs.geometry.Geometry.new.Goals as goal

pub returns-then-not-ranges : goal.returns-then-not-ranges
unfolding geometry_of
returns-then-not-ranges c =
    let outside : let s = c.args in in_ranges s.nodes s.items s.frames ≡ false = c.if-not-ranges.true in
    simp outside

pub overflow_mul-reserved : goal.overflow_mul-reserved
overflow_mul-reserved c =
    let inside : let s = c.args in in_ranges s.nodes s.items s.frames ≡ true = c.if-not-ranges.false in
    let ranges : let s = c.args in Sized s.nodes s.items s.frames = sized _ _ _ inside in
    let h = ranges in omega arith

pub overflow_mul-reserved-2 : goal.overflow_mul-reserved-2
overflow_mul-reserved-2 c =
    let inside : let s = c.args in in_ranges s.nodes s.items s.frames ≡ true = c.if-not-ranges.false in
    let ranges : let s = c.args in Sized s.nodes s.items s.frames = sized _ _ _ inside in
    let h = ranges in omega arith

pub overflow_sub-reserved : goal.overflow_sub-reserved
overflow_sub-reserved c =
    let inside : let s = c.args in in_ranges s.nodes s.items s.frames ≡ true = c.if-not-ranges.false in
    let ranges : let s = c.args in Sized s.nodes s.items s.frames = sized _ _ _ inside in
    let h = ranges in omega arith

pub overflow_sub-reserved-2 : goal.overflow_sub-reserved-2
overflow_sub-reserved-2 c =
    let inside : let s = c.args in in_ranges s.nodes s.items s.frames ≡ true = c.if-not-ranges.false in
    let ranges : let s = c.args in Sized s.nodes s.items s.frames = sized _ _ _ inside in
    let h = ranges in omega arith

pub overflow_mul-reserved-3 : goal.overflow_mul-reserved-3
overflow_mul-reserved-3 c =
    let inside : let s = c.args in in_ranges s.nodes s.items s.frames ≡ true = c.if-not-ranges.false in
    let ranges : let s = c.args in Sized s.nodes s.items s.frames = sized _ _ _ inside in
    let h = ranges in
    let s = c.args in
    let p : (s.nodes - 2) * s.frames ≤ 16 * 512 = product 16 512 (omega arith) h.frames_high in
    omega arith

pub returns-then-not-reserved : goal.returns-then-not-reserved
unfolding geometry_of
returns-then-not-reserved c =
    let inside : let s = c.args in in_ranges s.nodes s.items s.frames ≡ true = c.if-not-ranges.false in
    let scarce : let s = c.args in four_copies s.nodes s.items s.frames ≡ false = c.if-not-reserved.true in
    simp (inside, scarce)

pub overflow_cast-result : goal.overflow_cast-result
overflow_cast-result c =
    let inside : let s = c.args in in_ranges s.nodes s.items s.frames ≡ true = c.if-not-ranges.false in
    let ranges : let s = c.args in Sized s.nodes s.items s.frames = sized _ _ _ inside in
    let h = ranges in omega arith

pub overflow_cast-result-2 : goal.overflow_cast-result-2
overflow_cast-result-2 c =
    let inside : let s = c.args in in_ranges s.nodes s.items s.frames ≡ true = c.if-not-ranges.false in
    let ranges : let s = c.args in Sized s.nodes s.items s.frames = sized _ _ _ inside in
    let h = ranges in omega arith

pub overflow_cast-result-3 : goal.overflow_cast-result-3
overflow_cast-result-3 c =
    let inside : let s = c.args in in_ranges s.nodes s.items s.frames ≡ true = c.if-not-ranges.false in
    let ranges : let s = c.args in Sized s.nodes s.items s.frames = sized _ _ _ inside in
    let h = ranges in omega arith

pub returns : goal.returns
unfolding geometry_of
returns c =
    let inside : let s = c.args in in_ranges s.nodes s.items s.frames ≡ true = c.if-not-ranges.false in
    let reserved : let s = c.args in four_copies s.nodes s.items s.frames ≡ true = c.if-not-reserved.false in
    simp (inside, reserved)
