-- The recovery copy of an entry when a checkpoint is rolled forward to: laws of `forward_copy`.
use Prim.Native.Nat.{ℕ, ◌<◌}
use mathlib.Core.Path.{◌≡◌, refl, ◌∙◌}
use mathlib.Core.Logic.{◌≢◌}
use mathlib.Core.Bool.{Bool, cond, ◌||◌}
use lib.Dec.{eqb}
use borrow.Author.Tests.{eqb-true}
use Rattle.counting.proofs.Laws.Tests.{by_cases}
use Rattle.counting.specs.Counting.{every}
use Rattle.counting.proofs.Laws.Counting.{every_at}
use Rattle.table.specs.declared.changes.Event.TheVariants.{RollForward}
use Rattle.table.specs.Words.{shared_ck1, shared_ck2, precommit1, precommit2}
use Rattle.table.specs.Changes.{change_of, checkpoint_of}
use Rattle.table.specs.View.{Entry, current}
use Rattle.table.specs.Copies.{back_by, copy_number, copy_value, forward_copy}

-- ---- the number and the value by the current place

abbrev pub forward_number : ℕ → ℕ
forward_number c = cond (eqb c shared_ck1 || eqb c precommit1) 1 (cond (eqb c shared_ck2 || eqb c precommit2) 2 0)

number_rule : ℕ → Bool
number_rule c = eqb (checkpoint_of (change_of c RollForward)) (forward_number c)

pub by_number : (number x y : ℕ) → copy_number (back_by number 0 x y) ≡ number
unfolding back_by
by_number number x y = by_cases (eqb number 0) (λ z. rw (eqb-true number 0 z) refl) (λ z. rw z refl)

by_value : (number x y : ℕ) → copy_number (back_by number 0 x y) ≢ 0 → copy_value (back_by number 0 x y) ≡ x
unfolding back_by
by_value number x y d = by_cases (eqb number 0) (λ z. absurd (d (by_number number x y ∙ eqb-true number 0 z))) (λ z. rw z refl)

pub forward_number_lem : (e : Entry) → current e < 8 → copy_number (forward_copy e) ≡ forward_number (current e)
unfolding number_rule change_of every
forward_number_lem e h = by_number _ e.value e.kept_value ∙ eqb-true _ _ (every_at 8 number_rule refl (current e) h)

pub forward_value : (e : Entry) → copy_number (forward_copy e) ≢ 0 → copy_value (forward_copy e) ≡ e.value
forward_value e d = by_value _ e.value e.kept_value d
