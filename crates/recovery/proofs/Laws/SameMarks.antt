-- While the marks are those that a recovery found, it has the same survivors, side and number; so its entries alone decide how ready the table is.
use Prim.Native.Nat.{ℕ, ◌≤◌, ◌<◌}
use mathlib.Core.Path.{◌≡◌, refl, sym, ap, ◌∙◌}
use mathlib.Core.Bool.{true}
use Rattle.table.specs.declared.geometry.Geometry.{Geometry}
use Rattle.table.specs.Words.{state_form}
use Rattle.table.specs.View.{View}
use Rattle.entries.specs.Frames.{sets_of, set_frames, used}
use Rattle.homes.proofs.Laws.Kept.{Live}
use Rattle.survivors.specs.Direction.{forward_in}
use Rattle.survivors.specs.Survivors.{largest_number}
use Rattle.recovery.proofs.Laws.Ready.{Sided, Ready, Going}

module _ (g : Geometry) (w u : View) (same : u.mark ≡ w.mark) where
  pub same_live : (n : ℕ) → Live g u n → Live g w n
  same_live n l = record { there = l.there; marked = λ z. l.marked (ap (λ f. f n) same ∙ z) }

  pub live_same : (n : ℕ) → Live g w n → Live g u n
  live_same n l = record { there = l.there; marked = λ z. l.marked (sym (ap (λ f. f n) same) ∙ z) }

  pub same_side : forward_in g u ≡ forward_in g w
  unfolding forward_in
  same_side = rw same refl

  pub same_largest : largest_number g u ≡ largest_number g w
  unfolding largest_number
  same_largest = rw same refl

  pub same_going :
      (saved : ℕ → ℕ) (number : ℕ) → Ready g saved number w
      → ((n b : ℕ) → Live g u n → b < g.items → state_form (u.entry n b).state ≡ true)
      → ((n s : ℕ) → Live g u n → s < sets_of g → used g u n s ≤ set_frames g) → Sided g saved (forward_in g w) u → Going g saved number w u
  same_going saved number r forms frames side = record {
    ready = record {
      marks = λ n l. rw same (r.marks n (same_live n l));
      forms = forms;
      frames = frames;
      side = rw same_side side;
      point = same_largest ∙ r.point;
    };
    same = λ n. rw same refl;
  }
