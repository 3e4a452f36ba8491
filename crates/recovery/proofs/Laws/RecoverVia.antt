-- Recover on a view of the survivors: its stages one after the other. However it is cut, what is left of it among the survivors is as ready as they were at the start.
use Prim.Native.Nat.{ℕ}
use mathlib.Core.Path.{◌≡◌}
use mathlib.Core.Bool.{false}
use mathlib.Core.List.{List}
use Rattle.table.specs.declared.geometry.Geometry.{Geometry}
use Rattle.table.specs.Stores.{Store}
use Rattle.table.specs.View.{View}
use Rattle.table.proofs.Laws.Via.{Via, via_weaken, via_loosen}
use Rattle.survivors.specs.Survivors.{too_few, closing_stores}
use Rattle.recovery.specs.Sides.{roll_stores}
use Rattle.recovery.specs.Numbering.{number_stores, partners_stores}
use Rattle.recovery.specs.Recover.{followed, survivor_stores}
use Rattle.recovery.proofs.Laws.Ready.{Ready, Going, Plain}
use Rattle.recovery.proofs.Laws.Recovered.{Recovered}
use Rattle.recovery.proofs.Laws.PlainReady.{plain_ready}
use Rattle.recovery.proofs.Laws.RollVia.{roll_via}
use Rattle.recovery.proofs.Laws.NumberVia.{number_via}
use Rattle.recovery.proofs.Laws.StagedVia.{via_on}
use Rattle.recovery.proofs.Laws.PartnerVia.{partners_via}
use Rattle.recovery.proofs.Laws.ClosingVia.{closing_via}

-- ---- a stage after another, on the view that it leaves

module _ {g : Geometry} {P : View → Type 0} where
  pub via_followed :
      {B C : View → Type 0} (f h : View → List Store) {v : View} → Via g P B v (f v) → ((x : View) → P x → B x → Via g P C x (h x))
      → Via g P C v (followed f h v)
  unfolding followed
  via_followed f h r k = via_on r (k _)

  -- what holds all along holds at the end
  pub via_both : {B : View → Type 0} {v : View} {ss : List Store} → Via g P B v ss → Via g P (λ x. P x × B x) v ss
  via_both r = via_weaken r (λ x p b. (p, b))

-- ---- the stages

module _ (g : Geometry) (saved : ℕ → ℕ) (number : ℕ) (w : View) (r : Ready g saved number w) (room : too_few g w ≡ false) where
  going_of : (u : View) → Plain g saved w u → Going g saved number w u
  going_of u = plain_ready g saved number w u r

  pub survivors_via : Via g (Going g saved number w) (Recovered g saved number w) w (survivor_stores g w)
  unfolding survivor_stores
  survivors_via =
      via_followed (roll_stores g) (followed (number_stores g) (followed (partners_stores g) (closing_stores g)))
      (roll_via g saved number w r)
      (λ x _ p. via_followed (number_stores g) (followed (partners_stores g) (closing_stores g))
      (via_loosen (via_both (number_via g saved w x p)) going_of)
      (λ y _ q. via_followed (partners_stores g) (closing_stores g)
      (via_loosen (via_both (partners_via g saved w y room q.0 (λ b h. (q.1 b h).0))) going_of)
      (λ z _ k. closing_via g saved number w z r k.0 k.1)))
