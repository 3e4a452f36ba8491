-- A whole Create: every value, every value saved and the point's number are as they were.
use Prim.Native.Nat.{ℕ, ◌≤◌, ◌<◌}
use mathlib.Core.Path.{◌≡◌, ap, ◌∙◌}
use mathlib.Core.Logic.{◌≢◌}
use mathlib.Core.List.{List}
use native.Mathlib.Omega.{arith}
use native.Mathlib.Decide.{ℕ_discrete}
use lib.ListN.{length}
use Rattle.counting.proofs.Laws.Tests.{no_both}
use Rattle.table.specs.declared.geometry.Geometry.{Geometry}
use Rattle.table.specs.Words.{number_of}
use Rattle.table.specs.Stores.{Store, after}
use Rattle.table.specs.View.{View, view, current}
use Rattle.table.specs.Answers.{carry}
use Rattle.entries.specs.Dirty.{owns}
use Rattle.checkpoints.specs.Create.{create_of}
use Rattle.homes.proofs.Laws.Kept.{Live}
use Rattle.checkpoints.proofs.Laws.Created.{Pairing, Paired}
use Rattle.checkpoints.proofs.Laws.CreateTheorem.{passed, create_found, create_keeps, create_created}
use Rattle.checkpoints.proofs.Laws.CreateSound.{create_sound}
use Rattle.homes.proofs.Laws.Serves.{CurrentHave, Serves, same_geometry, live_kept, back_held}

-- item b, its owner o, its partner p, the item d that p drops
module _
    (g : Geometry) (b o p d : ℕ) (v w : View) (found : Pairing g b o p d v) (z : Paired g b o p d v w) (values : ℕ → ℕ)
    (lives : (k : ℕ) → Live g w k → Live g v k) (h : CurrentHave g v values) where
  owner_value : (v.entry o b).value ≡ values b
  owner_value = h o b found.owner found.item (λ q. no_both found.owned (ap owns q))

  dropped_value : d < g.items → (v.entry p d).value ≡ values d
  dropped_value i = h p d found.partner i (λ q. omega (arith, q, found.drops i))

  -- where an entry has not changed
  rest_value : (k c : ℕ) → w.entry k c ≡ v.entry k c → Live g v k → c < g.items → current (w.entry k c) ≢ 0 → (w.entry k c).value ≡ values c
  rest_value k c e l i q = ap (λ e. e.value) e ∙ h k c l i (λ y. q (ap current e ∙ y))

  paired_item : (k : ℕ) → Live g v k → current (w.entry k b) ≢ 0 → (w.entry k b).value ≡ values b
  paired_item k l q = elim (ℕ_discrete k o) [
    | yes e ↦ ap (λ k. (w.entry k b).value) e ∙ ap (λ e. e.value) z.owner ∙ owner_value
    | no x ↦ elim (ℕ_discrete k p) [
      | yes e ↦ ap (λ k. (w.entry k b).value) e ∙ ap (λ e. e.value) z.partner ∙ owner_value
      | no y ↦ rest_value k b (z.rest k b (λ e _. x e) (λ e _. y e) (λ _ e _. y e)) l found.item q
    ]
  ]

  other_item : (k c : ℕ) → c ≢ b → Live g v k → c < g.items → current (w.entry k c) ≢ 0 → (w.entry k c).value ≡ values c
  other_item k c x l i q = elim (ℕ_discrete k p) [
    | no y ↦ rest_value k c (z.rest k c (λ _ e. x e) (λ _ e. x e) (λ _ e _. y e)) l i q
    | yes y ↦ elim (ℕ_discrete c d) [
      | no r ↦ rest_value k c (z.rest k c (λ _ e. x e) (λ _ e. x e) (λ _ _ e. r e)) l i q
      | yes r ↦ (let j : d < g.items = rw r at i in rw (y, r) (ap (λ e. e.value) (z.dropped j) ∙ dropped_value j))
    ]
  ]

  paired_current : CurrentHave g w values
  paired_current k c l i q = elim (ℕ_discrete c b) [
    | yes e ↦ rw e (paired_item k (lives k l) (λ y. q (ap (λ c. current (w.entry k c)) e ∙ y)))
    | no x ↦ other_item k c x (lives k l) i q
  ]

module _ (t : List ℕ) (g : Geometry) (values saved : ℕ → ℕ) (number : ℕ) (s : Serves t g values saved number) where
  serves_here :
      {value : ℕ} {ss : List Store} → create_of t ≡ carry g value ss → (limit : ℕ) → length ss ≤ limit
      → Serves (after g limit ss t) g values saved number
  serves_here {value} {ss} accepted limit whole =
      let k = create_keeps t accepted limit in
      let lives = live_kept g (view g t) (view g (after g limit ss t)) k.marks in
      record {
        passed = create_sound t accepted limit whole;
        number_is = λ n l. ap (λ f. number_of (f n)) k.marks ∙ s.number_is n (lives n l);
        current = paired_current g _ _ _ _ (view g t) _ (create_found t accepted) (create_created t accepted limit whole) values lives s.current;
        back = back_held g (view g t) _ saved k s.back;
      }

  pub create_serves :
      {g' : Geometry} {value : ℕ} {ss : List Store} → create_of t ≡ carry g' value ss → (limit : ℕ) → length ss ≤ limit
      → Serves (after g' limit ss t) g values saved number
  create_serves accepted limit whole =
      let e = same_geometry t s.passed (passed t accepted) in
      rw e (serves_here (rw e at accepted) limit whole)
