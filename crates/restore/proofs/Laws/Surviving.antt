-- What the survivors of a strike show: their marks and all entries are as they were; and of two live nodes one survives.
use Rattle.std.specs.Prelude.{None, Option, Some}
use Prim.Native.Nat.{ℕ}
use mathlib.Core.Path.{◌≡◌, refl, sym, ◌∙◌}
use mathlib.Core.Logic.{◌⊎◌, inl, inr, ◌≢◌}
use native.Mathlib.Decide.{ℕ_discrete}
use Rattle.table.specs.declared.geometry.Geometry.{Geometry}
use Rattle.table.specs.View.{View}
use Rattle.table.proofs.Laws.Puts.{put₁_case}
use Rattle.entries.specs.Frames.{frames_at, used}
use Rattle.homes.proofs.Laws.Kept.{Live}
use Rattle.survivors.specs.Survivors.{survivors}

module _ (g : Geometry) (u : View) where
  -- its mark is as it was
  pub survivor_mark : (lost : Option ℕ) (n : ℕ) → Live g (survivors lost u) n → (survivors lost u).mark n ≡ u.mark n
  survivor_mark None n l = refl
  survivor_mark (Some m) n l =
      put₁_case (λ x. (x ≡ 0 → ⊥) → x ≡ u.mark n) u.mark m 0 n (λ e d. absurd (d refl)) (λ e d. refl) l.marked

  -- it was live
  pub survivor_live : (lost : Option ℕ) (n : ℕ) → Live g (survivors lost u) n → Live g u n
  survivor_live lost n l = record { there = l.there; marked = λ z. l.marked (survivor_mark lost n l ∙ z) }

  pub survivor_entries : (lost : Option ℕ) → (survivors lost u).entry ≡ u.entry
  survivor_entries None = refl
  survivor_entries (Some m) = refl

  pub survivor_used : (lost : Option ℕ) (n s : ℕ) → used g (survivors lost u) n s ≡ used g u n s
  unfolding used frames_at
  survivor_used None n s = refl
  survivor_used (Some m) n s = refl

  -- a live node that is not the lost one survives
  other_survives : (m n : ℕ) → n ≢ m → Live g u n → Live g (survivors (Some m) u) n
  other_survives m n d l =
      record { there = l.there; marked = put₁_case (λ x. x ≡ 0 → ⊥) u.mark m 0 n (λ e. absurd (d e)) (λ e. l.marked) }

  -- one of two
  pub one_survives :
      (lost : Option ℕ) (m n : ℕ) → m ≢ n → Live g u m → Live g u n → Live g (survivors lost u) m ⊎ Live g (survivors lost u) n
  one_survives None m n d l k = inl l
  one_survives (Some h) m n d l k = elim (ℕ_discrete m h) [
    | no e ↦ inl (other_survives h m e l)
    | yes e ↦ inr (other_survives h n (λ z. d (e ∙ sym z)) k)
  ]
