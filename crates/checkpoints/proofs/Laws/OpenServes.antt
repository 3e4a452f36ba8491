-- A whole Open: every value, every value saved and the point's number are as they were.
use Prim.Native.Nat.{ℕ, ◌≤◌}
use mathlib.Core.Path.{◌≡◌, ap, ◌∙◌}
use mathlib.Core.List.{List}
use lib.ListN.{length}
use Rattle.table.specs.declared.geometry.Geometry.{Geometry}
use Rattle.table.specs.Stores.{Store, after}
use Rattle.table.specs.View.{view, current}
use Rattle.table.specs.Answers.{carry}
use Rattle.entries.proofs.Laws.CheckFacts.{Accepted}
use Rattle.checkpoints.specs.Open.{open_of}
use Rattle.checkpoints.proofs.Laws.OpenTheorem.{carried, open_keeps, open_opened}
use Rattle.checkpoints.proofs.Laws.OpenSound.{open_accepted}
use Rattle.homes.proofs.Laws.Serves.{Serves, same_geometry, serves_number, serves_by, live_marked, back_kept}

module _ (t : List ℕ) (g : Geometry) (values saved : ℕ → ℕ) (number : ℕ) (s : Serves t g values saved number) where
  serves_here :
      {value : ℕ} {ss : List Store} → open_of t ≡ carry g value ss → (limit : ℕ) → length ss ≤ limit
      → Serves (after g limit ss t) g values saved number
  serves_here {value} {ss} accepted limit whole =
      let z = open_opened t accepted limit whole in
      let lives = live_marked g (view g t) (view g (after g limit ss t)) z.dead in
      let a : Accepted (after g limit ss t) g 1 number = rw (serves_number t g values saved number s) at (open_accepted t accepted limit whole) in
      serves_by (after g limit ss t) g values saved 1 number a
      (λ n b l i d. let e = ap (λ f. f n b) z.entries in ap (λ e. e.value) e ∙ s.current n b (lives n l) i (λ y. d (ap current e ∙ y)))
      (back_kept g (view g t) _ lives saved (open_keeps t accepted limit).entries.back s.back)

  pub open_serves :
      {g' : Geometry} {value : ℕ} {ss : List Store} → open_of t ≡ carry g' value ss → (limit : ℕ) → length ss ≤ limit
      → Serves (after g' limit ss t) g values saved number
  open_serves accepted limit whole =
      let e = same_geometry t s.passed (carried t accepted).passed in
      rw e (serves_here (rw e at accepted) limit whole)
