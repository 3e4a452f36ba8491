-- How long Recover's list is: the lost mark, at most three stores for each entry rolled, one for each entry numbered, two for each item's partner, and
-- a mark for each survivor.
use Rattle.std.specs.Prelude.{None, Option, Some}
use Prim.Native.Nat.{ℕ, ◌+◌, ◌*◌, ◌/◌, ◌%◌, ◌≤◌}
use mathlib.Core.Bool.{Bool, cond, not, ◌&&◌}
use mathlib.Core.List.{List, []}
use native.Mathlib.Omega.{arith}
use native.Mathlib.Nat.{le_trans}
use lib.Dec.{eqb}
use lib.ListN.{length}
use Rattle.table.specs.declared.geometry.Geometry.{Geometry}
use Rattle.table.specs.Words.{invalid, mark_word}
use Rattle.table.specs.Stores.{Store}
use Rattle.table.specs.View.{Entry, View, live, current, kept, updates}
use Rattle.survivors.specs.Survivors.{lost_stores, survivors, largest_number, closing_stores}
use Rattle.survivors.specs.Direction.{forward_in}
use Rattle.recovery.specs.Sides.{bring_back, settled, roll_change, roll_stores}
use Rattle.recovery.specs.Numbering.{number_at, number_change, number_stores, single, holder_of, partner_of, partner_changes, partner_from, partner_stores, partners_stores}
use Rattle.recovery.specs.Recover.{followed, survivor_stores, recover_stores}
use Rattle.restore.proofs.Laws.Lengths.{cond_short, then_short, pass_short, staged_short, marks_short, entries_short}

-- ---- the stages

settled_short : (next : ℕ) (e : Entry) → length (settled next e) ≤ 1
unfolding settled
settled_short next e = cond_short (eqb next (current e) && eqb (kept e) invalid) [] _ 1 (omega arith) (omega arith)

back_short : (e : Entry) → length (bring_back e) ≤ 3
unfolding bring_back
back_short e = then_short (cond (eqb (current e) invalid) [] _) _ 1 2 (cond_short (eqb (current e) invalid) [] _ 1 (omega arith) (omega arith)) (omega arith)

roll_short : (forward : Bool) (e : Entry) → length (roll_change forward e) ≤ 3
unfolding roll_change
roll_short forward e =
    cond_short (not forward && not (eqb (kept e) invalid)) (bring_back e) _ 3 (back_short e) (le_trans (settled_short _ e) (omega arith))

rolls_short : (g : Geometry) (w : View) → length (roll_stores g w) ≤ g.nodes * g.items * 3
unfolding roll_stores
rolls_short g w = entries_short g w (roll_change (forward_in g w)) 3 (roll_short (forward_in g w))

number_short : (g : Geometry) (w : View) (n b : ℕ) → length (number_change g w n b) ≤ 1
unfolding number_change
number_short g w n b = cond_short (live w n && not (eqb (number_at w n b) 0)) _ [] 1 (settled_short _ (w.entry n b)) (omega arith)

numbers_short : (g : Geometry) (w : View) → length (number_stores g w) ≤ g.items * g.nodes * 1
unfolding number_stores
numbers_short g w =
    pass_short (λ k. k % g.nodes) (λ k. k / g.nodes) (λ k. number_change g w (k % g.nodes) (k / g.nodes)) 1
    (λ k. number_short g w (k % g.nodes) (k / g.nodes)) (g.items * g.nodes)

from_short : (g : Geometry) (w : View) (b n : ℕ) → length (partner_from g w b n) ≤ 2
unfolding partner_from partner_changes
from_short g w b n = cond_short (eqb (partner_of g w b n) n) [] _ 2 (omega arith) (omega arith)

partner_short : (g : Geometry) (b : ℕ) (w : View) → length (partner_stores g b w) ≤ 2
unfolding partner_stores
partner_short g b w = cond_short (single g w b) _ [] 2 (from_short g w b (holder_of g w b)) (omega arith)

partners_short : (g : Geometry) (w : View) → length (partners_stores g w) ≤ g.items * 2
unfolding partners_stores
partners_short g w = staged_short (partner_stores g) 2 (partner_short g) g.items w

closing_short : (g : Geometry) (w : View) → length (closing_stores g w) ≤ g.nodes
unfolding closing_stores
closing_short g w = marks_short g w (λ x. mark_word 0 (largest_number g w))

-- ---- one after the other

followed_short :
    (f h : View → List Store) (c d : ℕ) → ((w : View) → length (f w) ≤ c) → ((w : View) → length (h w) ≤ d) → (w : View) → length (followed f h w) ≤ c + d
unfolding followed
followed_short f h c d p q w = then_short (f w) (h (updates (f w) w)) c d (p w) (q (updates (f w) w))

lost_short : (lost : Option ℕ) → length (lost_stores lost) ≤ 1
lost_short None = omega arith
lost_short (Some n) = omega arith

pub recover_length :
    (g : Geometry) (lost : Option ℕ) (v : View)
    → length (recover_stores g lost v) ≤ 1 + (g.nodes * g.items * 3 + (g.items * g.nodes * 1 + (g.items * 2 + g.nodes)))
unfolding recover_stores survivor_stores
recover_length g lost v =
    then_short (lost_stores lost) (survivor_stores g (survivors lost v)) 1 _ (lost_short lost)
    (followed_short (roll_stores g) (followed (number_stores g) (followed (partners_stores g) (closing_stores g))) _ _ (rolls_short g)
    (followed_short (number_stores g) (followed (partners_stores g) (closing_stores g)) _ _ (numbers_short g)
    (followed_short (partners_stores g) (closing_stores g) _ _ (partners_short g) (closing_short g)))
    (survivors lost v))
