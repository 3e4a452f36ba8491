-- Any accepted Recover, on any table at all, leaves each item on exactly two survivors, at the value of the copies that it found, and a table that passes its checks.
use Rattle.std.specs.Prelude.{Option}
use Prim.Native.Nat.{ℕ, ◌<◌}
use mathlib.Core.Path.{◌≡◌, refl, ap}
use mathlib.Core.Bool.{Bool, true, not}
use mathlib.Core.List.{List}
use native.Mathlib.Omega.{arith}
use lib.ListN.{length}
use borrow.Author.Tests.{eqb-false, ne_eqb, not-true, leb-true}
use Rattle.counting.proofs.Laws.Tests.{both, and_both, by_cases, no_both, given}
use Rattle.counting.proofs.Laws.Counting.{every_at}
use Rattle.counting.proofs.Laws.Values.{unseen_values, values_equal}
use Rattle.table.specs.declared.geometry.Geometry.{Geometry}
use Rattle.table.specs.Stores.{Store, after}
use Rattle.table.specs.View.{View, view, live}
use Rattle.table.specs.Answers.{carry}
use Rattle.entries.specs.Frames.{sets_of, frames_fit}
use Rattle.entries.specs.Sound.{marks_form, states_form, node_sound, nodes_sound}
use Rattle.homes.proofs.Laws.Kept.{Live, live_test, test_live}
use Rattle.homes.proofs.Laws.Serves.{Serves}
use Rattle.counting.specs.Counting.{exists}
use Rattle.counting.proofs.Laws.Exists.{exists_at, not_exists}
use Rattle.survivors.specs.Survivors.{survivors, largest_number}
use Rattle.recovery.specs.Sides.{has_copy, copies_on, item_fits, items_fit}
use Rattle.survivors.specs.Direction.{forward_in}
use Rattle.recovery.specs.Recover.{survivors_formed, recover_of}
use Rattle.recovery.proofs.Laws.RecoverPlan.{Carries, recover_carries}
use Rattle.recovery.proofs.Laws.Ready.{Holds, Ready}
use Rattle.recovery.proofs.Laws.Recovered.{Recovered}
use Rattle.recovery.proofs.Laws.RecoverTheorem.{recover_leaves, recover_serves}

-- the value of an item's copies on the side that the survivors choose
abbrev pub found : Geometry → View → ℕ → ℕ
found g w b = (copies_on g (forward_in g w) w b).first

module _ (g : Geometry) (w : View) (formed : survivors_formed g w ≡ true) (fit : items_fit g w ≡ true) where
  -- an item's copies: there is one, and they are equal
  item : (b : ℕ) → b < g.items → ((copies_on g (forward_in g w) w b).seen ≡ true) × ((copies_on g (forward_in g w) w b).equal ≡ true)
  unfolding items_fit item_fits
  item b h = both (copies_on g (forward_in g w) w b).seen (every_at g.items _ fit b h)

  one_there : (b : ℕ) → b < g.items → (n : ℕ) × Holds g (forward_in g w) w b n
  unfolding copies_on
  one_there b h = by_cases (exists p g.nodes)
      (λ y. let (n, (l, q)) = exists_at g.nodes p y in
      let (a, c) = both (live w n) q in
      (n, record { alive = test_live g w n l a; copied = eqb-false _ 0 (not-true _ c) }))
      (λ y. absurd (no_both (item b h).0 (unseen_values g.nodes p _ (not_exists g.nodes p y))))
    where
      p : ℕ → Bool
      p = has_copy (forward_in g w) w b

  node_formed : (n : ℕ) → Live g w n → (states_form g w n ≡ true) × (frames_fit g w n ≡ true)
  unfolding survivors_formed nodes_sound node_sound
  node_formed n l =
      both (states_form g w n) (given (live w n) (every_at g.nodes _ (both (marks_form w g.nodes) formed).1 n l.there) (live_test g w n l))

  pub any_ready : Ready g (found g w) (largest_number g w) w
  unfolding survivors_formed marks_form states_form frames_fit copies_on
  any_ready = record {
    marks = λ n l. every_at g.nodes _ (both (marks_form w g.nodes) formed).0 n l.there;
    forms = λ n b l h. every_at g.items _ (node_formed n l).0 b h;
    frames = λ n s l h. leb-true _ _ (every_at (sets_of g) _ (node_formed n l).1 s h);
    side = record {
      there = one_there;
      values = λ n b l h d. values_equal g.nodes (has_copy (forward_in g w) w b) _ (item b h).1 n l.there
          (and_both (live_test g w n l) (ap not (ne_eqb _ 0 d)));
    };
    point = refl;
  }

module _ (t : List ℕ) (lost : Option ℕ) (scratch : ℕ) {g : Geometry} {x : ℕ} {ss : List Store} (accepted : recover_of t lost scratch ≡ carry g x ss) where
  abbrev w : View
  w = survivors lost (view g t)

  told : Carries t lost scratch g ss
  told = recover_carries t lost scratch accepted

  pub any_leaves : Recovered g (found g w) (largest_number g w) w (view g (after g (length ss) ss t))
  any_leaves = rw told.stores_are
      (recover_leaves t g (found g w) _ lost told.passed told.inside (any_ready g w told.formed told.fit) told.enough_nodes _ (omega arith))

  pub any_serves : Serves (after g (length ss) ss t) g (found g w) (found g w) (largest_number g w)
  any_serves = rw told.stores_are
      (recover_serves t g (found g w) _ lost told.passed told.inside (any_ready g w told.formed told.fit) told.enough_nodes _ (omega arith))
