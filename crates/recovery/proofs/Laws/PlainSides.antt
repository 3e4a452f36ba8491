-- A plain entry has the same recovery copy on either side: its current one. So it does not matter which side the survivors choose.
use Prim.Native.Nat.{ℕ, ◌<◌}
use mathlib.Core.Path.{◌≡◌, refl, sym, ap, ap₂, ◌∙◌}
use mathlib.Core.Logic.{◌≢◌, ◌⊎◌, inl, inr}
use mathlib.Core.Bool.{Bool, true, false, cond}
use native.Mathlib.Decide.{ℕ_discrete}
use lib.Dec.{eqb}
use Rattle.table.specs.declared.geometry.Geometry.{Geometry}
use Rattle.table.specs.declared.changes.Event.TheVariants.{RollForward}
use Rattle.table.specs.Words.{shared_ck1, shared_ck2}
use Rattle.table.specs.Changes.{change_of, checkpoint_of}
use Rattle.table.proofs.Laws.Changes.{checkpoint_code}
use Rattle.table.specs.View.{Entry, View, current}
use Rattle.table.specs.Copies.{back_by, back_copy, copy_number, copy_value, forward_copy}
use Rattle.table.proofs.Laws.Copies.{back_number_lem}
use Rattle.homes.proofs.Laws.Kept.{Live}
use Rattle.checkpoints.proofs.Laws.Forward.{forward_value}
use Rattle.recovery.specs.Sides.{copy_on}
use Rattle.recovery.proofs.Laws.Ready.{Sided, PlainEntry, HasOne}

-- the column "roll forward": Invalid and a Shared-CK stay
forward_stays : (c : ℕ) → (c ≢ 0 → checkpoint_of c ≢ 0) → change_of c RollForward ≡ c
unfolding change_of
forward_stays c h = elim (ℕ_discrete c 0) [ yes e ↦ rw e refl | no e ↦ go (checkpoint_code c (h e)) ]
  where
    go : (c ≡ shared_ck1) ⊎ (c ≡ shared_ck2) → change_of c RollForward ≡ c
    go (inl e) = rw e refl
    go (inr e) = rw e refl

module _ (x : ℕ) (e : Entry) (p : PlainEntry x e) where
  sides_same : forward_copy e ≡ back_copy e
  sides_same = ap₂ (λ number k. back_by number k e.value e.kept_value) (ap checkpoint_of (forward_stays (current e) p.code)) (sym p.nothing)

  copy_same : (forward : Bool) → copy_on forward e ≡ forward_copy e
  copy_same true = refl
  copy_same false = sym sides_same

  pub plain_number : (forward : Bool) → copy_number (copy_on forward e) ≡ checkpoint_of (current e)
  plain_number forward =
      ap copy_number (copy_same forward ∙ sides_same) ∙ back_number_lem e
      ∙ ap (λ k. cond (eqb (current e) 4) 1 (cond (eqb (current e) 5) 2 k)) p.nothing

  -- it is there exactly if the entry is not Invalid
  pub plain_copied : (forward : Bool) → current e ≢ 0 → copy_number (copy_on forward e) ≢ 0
  plain_copied forward d z = p.code d (sym (plain_number forward) ∙ z)

  pub copied_plain : (forward : Bool) → copy_number (copy_on forward e) ≢ 0 → current e ≢ 0
  copied_plain forward d z = d (plain_number forward ∙ ap checkpoint_of z)

  pub plain_value : (forward : Bool) → copy_number (copy_on forward e) ≢ 0 → copy_value (copy_on forward e) ≡ x
  plain_value forward d =
      ap copy_value (copy_same forward) ∙ forward_value e (λ z. d (ap copy_number (copy_same forward) ∙ z))
      ∙ p.value (copied_plain forward d)

-- all entries of survivors plain, and a copy of each item among them: they have what a recovery needs, on either side
pub plain_sided :
    (g : Geometry) (saved : ℕ → ℕ) (u : View) → ((n b : ℕ) → Live g u n → b < g.items → PlainEntry (saved b) (u.entry n b))
    → ((b : ℕ) → b < g.items → (n : ℕ) × HasOne g u b n) → (forward : Bool) → Sided g saved forward u
plain_sided g saved u plain one forward = record {
  there = λ b h.
      let o = one b h in
      (o.0, record { alive = o.1.alive; copied = plain_copied _ _ (plain o.0 b o.1.alive h) forward o.1.copied });
  values = λ n b l h. plain_value _ _ (plain n b l h) forward;
}
