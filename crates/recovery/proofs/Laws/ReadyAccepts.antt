-- Survivors that are ready pass the checks of Recover: word forms and frames, and a recovery copy of each item, all of one value. Never 2, never 15.
use Prim.Native.Nat.{ℕ, ◌<◌}
use mathlib.Core.Path.{◌≡◌, ap}
use mathlib.Core.Bool.{Bool, true, not}
use lib.Dec.{eqb, leb}
use borrow.Author.Tests.{eqb-false, ne_eqb, le-leb, not-true}
use Rattle.counting.proofs.Laws.Tests.{by_cases, both, and_both, implies}
use Rattle.counting.proofs.Laws.Counting.{every_all}
use Rattle.counting.proofs.Laws.Values.{values_seen, equal_values}
use Rattle.table.specs.declared.geometry.Geometry.{Geometry}
use Rattle.table.specs.Words.{state_form}
use Rattle.table.specs.View.{View, live}
use Rattle.table.specs.Copies.{copy_number, copy_value}
use Rattle.entries.specs.Frames.{sets_of, set_frames, used, frames_fit}
use Rattle.entries.specs.Sound.{marks_form, states_form, node_sound, nodes_sound}
use Rattle.homes.proofs.Laws.Kept.{live_test, test_live}
use Rattle.recovery.specs.Sides.{copy_on, has_copy, copies_on, item_fits, items_fit}
use Rattle.survivors.specs.Direction.{forward_in}
use Rattle.recovery.specs.Recover.{survivors_formed}
use Rattle.recovery.proofs.Laws.Ready.{Sided, Ready}
use Rattle.recovery.proofs.Laws.RecoveredSound.{dead_form}

module _ (g : Geometry) (saved : ℕ → ℕ) (number : ℕ) (w : View) (r : Ready g saved number w) where
  forms_hold : marks_form w g.nodes ≡ true
  unfolding marks_form
  forms_hold = every_all g.nodes _ (λ n l. by_cases (live w n) (λ t. r.marks n (test_live g w n l t)) (dead_form w n))

  nodes_hold : nodes_sound g w ≡ true
  unfolding nodes_sound node_sound states_form frames_fit
  nodes_hold =
      every_all g.nodes (node_sound g w) (λ n l. implies (live w n) (λ t. and_both
      (every_all g.items (λ b. state_form (w.entry n b).state) (λ b h. r.forms n b (test_live g w n l t) h))
      (every_all (sets_of g) (λ s. leb (used g w n s) (set_frames g)) (λ s h. le-leb (used g w n s) (set_frames g) (r.frames n s (test_live g w n l t) h)))))

  pub ready_formed : survivors_formed g w ≡ true
  unfolding survivors_formed
  ready_formed = and_both forms_hold nodes_hold

-- each item has a recovery copy on the side, and they agree
sided_fits : (g : Geometry) (saved : ℕ → ℕ) (forward : Bool) (w : View) → Sided g saved forward w → (b : ℕ) → b < g.items → item_fits g forward w b ≡ true
unfolding item_fits copies_on
sided_fits g saved forward w s b h =
    let o = s.there b h in
    and_both
    (values_seen g.nodes (has_copy forward w b) value o.0 o.1.alive.there
    (and_both (live_test g w o.0 o.1.alive) (ap not (ne_eqb _ 0 o.1.copied))))
    (equal_values g.nodes (has_copy forward w b) value (saved b)
    (λ n l t.
    let k = both (live w n) t in
    s.values n b (test_live g w n l k.0) h (eqb-false _ 0 (not-true (eqb (number n) 0) k.1)))).0
  where
    number : ℕ → ℕ
    number n = copy_number (copy_on forward (w.entry n b))

    value : ℕ → ℕ
    value n = copy_value (copy_on forward (w.entry n b))

pub ready_fit : (g : Geometry) (saved : ℕ → ℕ) (number : ℕ) (w : View) → Ready g saved number w → items_fit g w ≡ true
unfolding items_fit
ready_fit g saved number w r = every_all g.items (item_fits g (forward_in g w) w) (sided_fits g saved (forward_in g w) w r.side)
