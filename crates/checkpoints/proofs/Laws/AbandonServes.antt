-- A whole Abandon: every value, every value saved and the point's number are as they were.
use Prim.Native.Nat.{ℕ, ◌≤◌}
use mathlib.Core.Path.{◌≡◌, refl, ap, ◌∙◌}
use mathlib.Core.Bool.{false}
use mathlib.Core.List.{List}
use lib.ListN.{length}
use Rattle.table.specs.declared.geometry.Geometry.{Geometry}
use Rattle.table.specs.Stores.{Store, after}
use Rattle.table.specs.View.{Entry, view, current}
use Rattle.table.specs.Answers.{carry}
use Rattle.entries.proofs.Laws.CheckFacts.{Accepted}
use Rattle.checkpoints.specs.Checkpoint.{is_precommit}
use Rattle.checkpoints.specs.Commit.{abandon_of}
use Rattle.checkpoints.proofs.Laws.AbandonEntry.{abandoned_by, abandoned}
use Rattle.checkpoints.proofs.Laws.AbandonTheorem.{carried, abandon_keeps, abandon_abandoned}
use Rattle.checkpoints.proofs.Laws.AbandonSound.{abandon_accepted}
use Rattle.homes.proofs.Laws.Serves.{Serves, same_geometry, serves_number, serves_by, live_marked, back_kept}

-- an Invalid place stays Invalid
still_invalid : (e : Entry) → current e ≡ 0 → current (abandoned e) ≡ 0
still_invalid e z = let q : is_precommit (current e) ≡ false = rw z refl in ap (λ q. current (abandoned_by q e)) q ∙ z

module _ (t : List ℕ) (g : Geometry) (values saved : ℕ → ℕ) (number : ℕ) (s : Serves t g values saved number) where
  serves_here :
      {value : ℕ} {ss : List Store} → abandon_of t ≡ carry g value ss → (limit : ℕ) → length ss ≤ limit
      → Serves (after g limit ss t) g values saved number
  serves_here {value} {ss} accepted limit whole =
      let z = abandon_abandoned t accepted limit whole in
      let lives = live_marked g (view g t) (view g (after g limit ss t)) z.dead_marks in
      let a : Accepted (after g limit ss t) g 0 number = rw (serves_number t g values saved number s) at (abandon_accepted t accepted limit whole) in
      serves_by (after g limit ss t) g values saved 0 number a
      (λ n b l i d.
      let e = z.entries n b (lives n l) i in
      ap (λ e. e.value) e ∙ s.current n b (lives n l) i (λ y. d (ap current e ∙ still_invalid ((view g t).entry n b) y)))
      (back_kept g (view g t) _ lives saved (abandon_keeps t accepted limit).entries.back s.back)

  pub abandon_serves :
      {g' : Geometry} {value : ℕ} {ss : List Store} → abandon_of t ≡ carry g' value ss → (limit : ℕ) → length ss ≤ limit
      → Serves (after g' limit ss t) g values saved number
  abandon_serves accepted limit whole =
      let e = same_geometry t s.passed (carried t accepted).passed in
      rw e (serves_here (rw e at accepted) limit whole)
