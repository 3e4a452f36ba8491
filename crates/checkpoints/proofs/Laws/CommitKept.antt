-- What Commit keeps however it is cut: every live entry's recovery copy for a roll forward, word forms, frames; how far it has come; and what a whole one leaves.
use Prim.Native.Nat.{ℕ, ◌≤◌, ◌<◌}
use mathlib.Core.Path.{◌≡◌, sym, ap, ◌∙◌}
use mathlib.Core.Logic.{◌⊎◌, inl, inr}
use mathlib.Core.Bool.{true, false, not}
use native.Mathlib.Omega.{arith}
use lib.Dec.{eqb}
use borrow.Author.Tests.{ne_eqb}
use Rattle.counting.proofs.Laws.Tests.{by_cases}
use Rattle.table.specs.declared.geometry.Geometry.{Geometry}
use Rattle.table.specs.Words.{state_form}
use Rattle.table.specs.View.{View, live}
use Rattle.table.specs.Copies.{back_copy, forward_copy}
use Rattle.table.proofs.Laws.MarksPass.{Mixed, marks_live}
use Rattle.entries.specs.Frames.{sets_of, set_frames, used}
use Rattle.checkpoints.specs.Commit.{committing_mark, committed_mark}
use Rattle.homes.proofs.Laws.Kept.{Live, test_live}
use Rattle.checkpoints.proofs.Laws.CommitEntry.{committed}

-- ---- v at entry, w at the cut

pub record KeptForward (g : Geometry) (v w : View) : Type 0 where
  pub forward : (n b : ℕ) → Live g v n → b < g.items → forward_copy (w.entry n b) ≡ forward_copy (v.entry n b)
  pub forms : (n b : ℕ) → Live g v n → b < g.items → state_form (w.entry n b).state ≡ true
  pub frames : (n s : ℕ) → Live g v n → s < sets_of g → used g w n s ≤ set_frames g

-- first marks only; then entries, while every live mark is in phase 2; then marks, when back and forward are one
pub data CommitStage (g : Geometry) (v w : View) : Type 0 where
  marking : w.entry ≡ v.entry → Mixed g v committing_mark w → CommitStage g v w
  changing :
      ((n : ℕ) → Live g v n → w.mark n ≡ committing_mark (v.mark n)) → ((n : ℕ) → live v n ≡ false → w.mark n ≡ v.mark n)
      → CommitStage g v w
  closing :
      ((n b : ℕ) → Live g v n → b < g.items → back_copy (w.entry n b) ≡ forward_copy (w.entry n b))
      → ((n : ℕ) → Live g v n → (w.mark n ≡ committing_mark (v.mark n)) ⊎ (w.mark n ≡ committed_mark (v.mark n)))
      → ((n : ℕ) → live v n ≡ false → w.mark n ≡ v.mark n)
      → CommitStage g v w

pub record CommitCut (g : Geometry) (v w : View) : Type 0 where
  pub kept : KeptForward g v w
  pub stage : CommitStage g v w

-- ---- v at entry, w at the end

pub record CommitEnd (g : Geometry) (v w : View) : Type 0 where
  pub entries : (n b : ℕ) → Live g v n → b < g.items → w.entry n b ≡ committed (v.entry n b)
  pub agree : (n b : ℕ) → Live g v n → b < g.items → back_copy (w.entry n b) ≡ forward_copy (v.entry n b)
  pub dead_entries : (n b : ℕ) → n < g.nodes → live v n ≡ false → b < g.items → w.entry n b ≡ v.entry n b
  pub marks : (n : ℕ) → Live g v n → w.mark n ≡ committed_mark (v.mark n)
  pub dead_marks : (n : ℕ) → live v n ≡ false → w.mark n ≡ v.mark n

-- ---- the live nodes are the same ones

pub marked : (w : View) (n x : ℕ) → w.mark n ≡ x → (x ≡ 0 → ⊥) → live w n ≡ true
marked w n x e d = ap not (ne_eqb (w.mark n) 0 (λ z. d (sym e ∙ z)))

pub live_by :
    (g : Geometry) (v w : View) → ((n : ℕ) → Live g v n → live w n ≡ true) → ((n : ℕ) → live v n ≡ false → w.mark n ≡ v.mark n)
    → (n : ℕ) → n < g.nodes → live w n ≡ live v n
live_by g v w l d n h = by_cases (live v n) (λ t. l n (test_live g v n h t) ∙ sym t) (λ t. ap (λ x. not (eqb x 0)) (d n t))

pub stage_live : (g : Geometry) (v w : View) → CommitStage g v w → (n : ℕ) → n < g.nodes → live w n ≡ live v n
stage_live g v w (marking e m) n h = marks_live g v committing_mark (λ x z. omega arith) w m n
stage_live g v w (changing l d) n h = live_by g v w (λ n k. marked w n _ (l n k) (λ z. omega arith)) d n h
stage_live g v w (closing a l d) n h = live_by g v w (λ n k. go n (l n k)) d n h
  where
    go : (n : ℕ) → (w.mark n ≡ committing_mark (v.mark n)) ⊎ (w.mark n ≡ committed_mark (v.mark n)) → live w n ≡ true
    go n (inl e) = marked w n _ e (λ z. omega arith)
    go n (inr e) = marked w n _ e (λ z. omega arith)
