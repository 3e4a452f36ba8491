-- Recoveries that are broken off, none or many: what the survivors have for the restore stands, and they are the same nodes.
use Rattle.std.specs.Prelude.{Ok, Option}
use Prim.Native.Nat.{ℕ}
use mathlib.Core.Path.{◌≡◌, refl, ◌∙◌}
use mathlib.Core.Bool.{false}
use mathlib.Core.List.{List, [], ◌∷◌}
use Rattle.counting.proofs.Laws.Tests.{by_cases}
use Rattle.table.specs.declared.geometry.Geometry.{Geometry}
use Rattle.table.specs.View.{view}
use Rattle.table.specs.Answers.{table_of}
use Rattle.entries.specs.Check.{sizes_of}
use Rattle.entries.proofs.Laws.CheckFacts.{Shape, facts_sizes}
use Rattle.homes.proofs.Laws.SoundKept.{shape_after}
use Rattle.survivors.specs.Survivors.{survivors, lost_outside, too_few}
use Rattle.recovery.specs.Recover.{scratch_words, recover_of}
use Rattle.recovery.proofs.Laws.RecoverPlan.{few_refused}
use Rattle.recovery.proofs.Laws.RecoverOff.{recover_off}
use Rattle.recovery.proofs.Laws.Ready.{Ready, Going}
use Rattle.recovery.proofs.Laws.RecoverTheorem.{recover_accepts, recover_keeps}
use Rattle.restore.specs.Strike.{Attempt, broken_off}

-- t before, t' after
pub record Attempted (g : Geometry) (saved : ℕ → ℕ) (number : ℕ) (lost : Option ℕ) (t t' : List ℕ) : Type 0 where
  pub shape : Shape t' g
  pub going : Going g saved number (survivors lost (view g t)) (survivors lost (view g t'))

module _ (g : Geometry) (saved : ℕ → ℕ) (number : ℕ) (lost : Option ℕ) (inside : lost_outside g lost ≡ false) where
  nothing_done : (t : List ℕ) → Shape t g → Ready g saved number (survivors lost (view g t)) → Attempted g saved number lost t t
  nothing_done t s r = record { shape = s; going = record { ready = r; same = λ n. refl } }

  -- one more
  attempt :
      (t : List ℕ) → Shape t g → Ready g saved number (survivors lost (view g t)) → (a : Attempt (scratch_words g))
      → Attempted g saved number lost t (table_of (recover_of t lost a.scratch) a.limit t)
  attempt t s r a = by_cases (too_few g (survivors lost (view g t)))
      (λ few. rw (few_refused t lost a.scratch passed few).plan (nothing_done t s r))
      (λ room. rw (recover_accepts t g saved number lost passed inside r room a.scratch a.enough) (record {
        shape = shape_after g a.limit t (recover_off g lost (view g t)) s;
        going = recover_keeps t g saved number lost passed inside r room a.limit;
      }))
    where
      passed : sizes_of t ≡ Ok g
      passed = facts_sizes t g s

  pub attempts :
      (made : List (Attempt (scratch_words g))) (t : List ℕ) → Shape t g → Ready g saved number (survivors lost (view g t))
      → Attempted g saved number lost t (broken_off lost made t)
  unfolding broken_off
  attempts [] t s r = nothing_done t s r
  attempts (a ∷ rest) t s r =
      let one = attempt t s r a in
      let more = attempts rest (table_of (recover_of t lost a.scratch) a.limit t) one.shape one.going.ready in
      record { shape = more.shape; going = record { ready = more.going.ready; same = λ n. more.going.same n ∙ one.going.same n } }
