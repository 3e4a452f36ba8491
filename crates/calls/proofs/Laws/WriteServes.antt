-- A whole write: the item written has the value written, every other item and every value saved is as it was.
use Prim.Native.Nat.{ℕ, ◌≤◌}
use mathlib.Core.Path.{◌≡◌, ap, ◌∙◌}
use mathlib.Core.Bool.{cond}
use mathlib.Core.List.{List}
use native.Mathlib.Decide.{ℕ_discrete}
use lib.Dec.{eqb}
use lib.ListN.{length}
use borrow.Author.Tests.{eq-eqb, ne_eqb}
use Rattle.table.specs.declared.geometry.Geometry.{Geometry}
use Rattle.table.specs.Stores.{Store, after}
use Rattle.table.specs.View.{View, view, current}
use Rattle.table.specs.Answers.{carry}
use Rattle.entries.proofs.Laws.CheckFacts.{Accepted}
use Rattle.entries.proofs.Laws.SoundFacts.{phase_in}
use Rattle.calls.specs.Write.{write_of}
use Rattle.homes.proofs.Laws.Kept.{Live}
use Rattle.calls.proofs.Laws.WriteTheorem.{carried, write_keeps}
use Rattle.calls.proofs.Laws.WriteSound.{WriteShows, write_shows, write_accepted}
use Rattle.homes.proofs.Laws.Serves.{CurrentHave, Serves, same_geometry, serves_number, serves_by, live_kept, back_held}

-- the values after x is written to item b
abbrev pub written : (ℕ → ℕ) → ℕ → ℕ → ℕ → ℕ
written values b x c = cond (eqb c b) x (values c)

shown_current :
    (g : Geometry) (v w : View) (n b x : ℕ) (values : ℕ → ℕ) → ((k : ℕ) → Live g w k → Live g v k) → WriteShows g n b x v w → CurrentHave g v values
    → CurrentHave g w (written values b x)
shown_current g v w n b x values lives s h k c l i d = elim (ℕ_discrete c b) [
  | yes e ↦ rw (eq-eqb c b e) (ap (λ c. (w.entry k c).value) e ∙ s.value k (lives k l) (λ z. d (ap (λ c. current (w.entry k c)) e ∙ z)))
  | no q ↦ rw (ne_eqb c b q) (ap (λ e. e.value) (s.others k c q) ∙ h k c (lives k l) i (λ z. d (ap current (s.others k c q) ∙ z)))
]

module _ (t : List ℕ) (g : Geometry) (values saved : ℕ → ℕ) (number : ℕ) (s : Serves t g values saved number) (n b x : ℕ) where
  serves_here :
      {value : ℕ} {ss : List Store} → write_of t n b x ≡ carry g value ss → (limit : ℕ) → length ss ≤ limit
      → Serves (after g limit ss t) g (written values b x) saved number
  serves_here {value} {ss} accepted limit whole =
      let k = write_keeps t n b x accepted limit in
      let a : Accepted (after g limit ss t) g (phase_in g (view g t)) number =
      rw (serves_number t g values saved number s) at (write_accepted t n b x accepted limit whole) in
      serves_by (after g limit ss t) g (written values b x) saved _ number a
      (shown_current g (view g t) _ n b x values (live_kept g _ _ k.marks) (write_shows t n b x accepted limit whole) s.current)
      (back_held g (view g t) _ saved k s.back)

  pub write_serves :
      {g' : Geometry} {value : ℕ} {ss : List Store} → write_of t n b x ≡ carry g' value ss → (limit : ℕ) → length ss ≤ limit
      → Serves (after g' limit ss t) g (written values b x) saved number
  write_serves accepted limit whole =
      let e = same_geometry t s.passed (carried t n b x accepted).passed in
      rw e (serves_here (rw e at accepted) limit whole)
