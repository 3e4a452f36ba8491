-- Recover stores no word 0.
use Rattle.std.specs.Prelude.{None, Option, Some}
use Prim.Native.Nat.{ℕ, zero, suc, ◌*◌, ◌/◌, ◌%◌}
use mathlib.Core.Bool.{Bool, true, false, cond}
use mathlib.Core.List.{List, []}
use native.Mathlib.Omega.{arith}
use lib.Dec.{eqb}
use Rattle.table.specs.declared.geometry.Geometry.{Geometry}
use Rattle.table.specs.Stores.{Store, mark_store}
use Rattle.table.proofs.Laws.Stores.{All, none, more, all_then}
use Rattle.table.specs.View.{View, updates}
use Rattle.homes.proofs.Laws.SoundKept.{Off, entry_off, pass_off}
use Rattle.checkpoints.proofs.Laws.MarksSound.{marks_off, entries_off}
use Rattle.survivors.specs.Survivors.{lost_stores, survivors, closing_stores}
use Rattle.survivors.specs.Direction.{forward_in}
use Rattle.recovery.specs.Sides.{roll_change, roll_stores}
use Rattle.recovery.specs.Numbering.{number_change, number_stores, single, holder_of, partner_of, partner_changes, partner_from, partner_stores, staged, partners_stores}
use Rattle.recovery.specs.Recover.{followed, survivor_stores, recover_stores}

module _ (g : Geometry) where
  when_off : (q : Bool) {ss : List Store} → All (Off g) ss → All (Off g) (cond q ss [])
  when_off true a = a
  when_off false a = none

  unless_off : (q : Bool) {ss : List Store} → All (Off g) ss → All (Off g) (cond q [] ss)
  unless_off true a = none
  unless_off false a = a

  followed_off :
      (f h : View → List Store) → ((w : View) → All (Off g) (f w)) → ((w : View) → All (Off g) (h w)) → (w : View)
      → All (Off g) (followed f h w)
  unfolding followed
  followed_off f h a b w = all_then (a w) (b (updates (f w) w))

  -- ---- the stages

  roll_off : (w : View) → All (Off g) (roll_stores g w)
  unfolding roll_stores
  roll_off w = entries_off g w (roll_change (forward_in g w))

  number_off : (w : View) → All (Off g) (number_stores g w)
  unfolding number_stores
  number_off w = pass_off g (λ k. k % g.nodes) (λ k. k / g.nodes) (λ k. number_change g w (k % g.nodes) (k / g.nodes)) (g.items * g.nodes)

  partner_off : (b : ℕ) (w : View) → All (Off g) (partner_stores g b w)
  unfolding partner_stores partner_from
  partner_off b w =
      let n = holder_of g w b in
      when_off (single g w b) (unless_off (eqb (partner_of g w b n) n) (entry_off g (partner_of g w b n) b (partner_changes (w.entry n b))))

  staged_off : (n : ℕ) (w : View) → All (Off g) (staged (partner_stores g) n w)
  unfolding staged
  staged_off zero w = none
  staged_off (suc n) w = all_then (staged_off n w) (partner_off n (updates (staged (partner_stores g) n w) w))

  partners_off : (w : View) → All (Off g) (partners_stores g w)
  unfolding partners_stores
  partners_off = staged_off g.items

  closing_off : (w : View) → All (Off g) (closing_stores g w)
  unfolding closing_stores
  closing_off w = marks_off g w _

  mark_off : (n word : ℕ) → Off g (mark_store n word)
  mark_off n word e = omega arith

  lost_off : (lost : Option ℕ) → All (Off g) (lost_stores lost)
  lost_off None = none
  lost_off (Some n) = more (mark_off n 0) none

  pub recover_off : (lost : Option ℕ) (v : View) → All (Off g) (recover_stores g lost v)
  unfolding recover_stores survivor_stores
  recover_off lost v =
      all_then (lost_off lost)
      (followed_off _ _ roll_off (followed_off _ _ number_off (followed_off _ _ partners_off closing_off)) (survivors lost v))
