-- Recover on a view: the lost mark, and then the stages.
use Rattle.std.specs.Prelude.{None, Option, Some}
use Prim.Native.Nat.{ℕ}
use mathlib.Core.Path.{◌≡◌, refl, sym, ap, ◌∙◌, subst, fun_ext}
use mathlib.Core.Bool.{false, not}
use lib.Dec.{eqb}
use borrow.Author.Tests.{leb-false}
use Rattle.table.specs.declared.geometry.Geometry.{Geometry}
use Rattle.table.specs.Stores.{mark_store}
use Rattle.table.specs.View.{View, put₁, update}
use Rattle.table.proofs.Laws.Puts.{put₁_case}
use Rattle.table.proofs.Laws.Via.{Via, step, via_loosen}
use Rattle.survivors.specs.Survivors.{survivors, lost_outside, too_few}
use Rattle.recovery.specs.Recover.{recover_stores}
use Rattle.recovery.proofs.Laws.Ready.{Ready, Going}
use Rattle.recovery.proofs.Laws.Recovered.{Recovered}
use Rattle.recovery.proofs.Laws.RecoveredSound.{dead_mark}
use Rattle.recovery.proofs.Laws.RecoverVia.{survivors_via}

-- ---- a lost mark that is 0 already

put_again : (f : ℕ → ℕ) (n : ℕ) → f n ≡ 0 → put₁ f n 0 ≡ f
put_again f n z = fun_ext (λ k. put₁_case (λ y. y ≡ f k) f n 0 k (λ e. sym (ap f e ∙ z)) (λ _. refl))

pub lost_again : (n : ℕ) (u : View) → u.mark n ≡ 0 → survivors (Some n) u ≡ u
lost_again n u z = λ i. record { mark = put_again u.mark n z i; entry = u.entry }

-- ---- the lost mark before them

pub recover_via :
    (g : Geometry) (saved : ℕ → ℕ) (number : ℕ) (lost : Option ℕ) (v : View) → lost_outside g lost ≡ false → Ready g saved number (survivors lost v)
    → too_few g (survivors lost v) ≡ false
    → Via g (λ u. Going g saved number (survivors lost v) (survivors lost u)) (Recovered g saved number (survivors lost v)) v (recover_stores g lost v)
unfolding recover_stores
recover_via g saved number None v inside r room = survivors_via g saved number v r room
recover_via g saved number (Some n) v inside r room =
    let w = update (mark_store n 0) v in
    step {s = mark_store n 0} (record { ready = r; same = λ k. refl }) (leb-false g.nodes n inside)
    (via_loosen (survivors_via g saved number w r room)
    (λ u k. subst (Going g saved number w) (sym (lost_again n u (cleared u k))) k))
  where
    zero_there : put₁ v.mark n 0 n ≡ 0
    zero_there = put₁_case (λ y. y ≡ 0) v.mark n 0 n (λ _. refl) (λ d. absurd (d refl))

    cleared : (u : View) → Going g saved number (update (mark_store n 0) v) u → u.mark n ≡ 0
    cleared u k = dead_mark u n (k.same n ∙ ap (λ x. not (eqb x 0)) zero_there)
