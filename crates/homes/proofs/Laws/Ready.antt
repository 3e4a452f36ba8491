-- The laws of `specs/code/Ready.antt`: what a call found before its first store, and so its plan.
use Rattle.std.specs.Prelude.{Err, Ok, Result}
use Prim.Native.Nat.{ℕ}
use mathlib.Core.Path.{◌≡◌, refl, sym, ap, ◌∙◌}
use mathlib.Core.List.{List}
use native.Mathlib.Omega.{arith}
use Rattle.table.specs.declared.geometry.Geometry.{Geometry}
use Rattle.table.specs.declared.answers.Refusal.{Refusal}
use Rattle.table.specs.View.{View, view}
use Rattle.table.specs.Answers.{Plan, refuse}
use Rattle.entries.specs.Check.{fault_of}
use Rattle.homes.specs.Admission.{Admission, plan_admitted, plan_checked, plan_by}
use Rattle.homes.specs.code.Ready.{ready_by, ready_checked, ready_of}

-- a call that is ready: the table passed its checks, and the call is admitted
pub record IsReady (admits : Geometry → View → Admission) (t : List ℕ) (g : Geometry) : Type 0 where
  pub passed : Ok g ≡ fault_of t
  pub admitted : admits g (view g t) ≡ Ok tt

module _ (admits : Geometry → View → Admission) (t : List ℕ) where
  -- ---- the ways out: the table failed its checks, the call is turned down, or it is admitted

  pub ready_failed : {x : Refusal} → Err x ≡ fault_of t → Err x ≡ ready_of admits t
  unfolding ready_of ready_checked
  ready_failed h = ap (ready_checked admits t) h

  module _ {g : Geometry} (h : Ok g ≡ fault_of t) where
    pub ready_turned : {x : Refusal} → Err x ≡ admits g (view g t) → Err x ≡ ready_of admits t
    unfolding ready_of ready_checked ready_by
    ready_turned k = ap (ready_by g) k ∙ ap (ready_checked admits t) h

    pub ready_admitted : Ok tt ≡ admits g (view g t) → Ok g ≡ ready_of admits t
    unfolding ready_of ready_checked ready_by
    ready_admitted k = ap (ready_by g) k ∙ ap (ready_checked admits t) h

  -- ---- what it tells

  pub ready_tells : {g : Geometry} → Ok g ≡ ready_of admits t → IsReady admits t g
  unfolding ready_of ready_checked ready_by
  ready_tells {g} e = checked (fault_of t) refl (sym e)
    where
      admitted : (h : Geometry) → Ok h ≡ fault_of t → (a : Admission) → admits h (view h t) ≡ a → ready_by h a ≡ Ok g → IsReady admits t g
      admitted h p (Err r) k e = let z : ◌≡◌ {A = ℕ} 0 1 = cc in absurd (omega arith)
      admitted h p (Ok _) k e =
          let same : h ≡ g = cc in
          let here : IsReady admits t h = record { passed = p; admitted = k } in
          rw same at here

      checked : (c : Result Geometry Refusal) → c ≡ fault_of t → ready_checked admits t c ≡ Ok g → IsReady admits t g
      checked (Err r) p e = let z : ◌≡◌ {A = ℕ} 0 1 = cc in absurd (omega arith)
      checked (Ok h) p e = admitted h p (admits h (view h t)) refl e

  -- ---- and so the plan

  module _ (acts : Geometry → View → Plan) where
    pub plan_refused : {x : Refusal} → Err x ≡ ready_of admits t → plan_by admits acts t ≡ refuse x
    unfolding plan_by plan_checked plan_admitted ready_of ready_checked ready_by
    plan_refused {x} e = checked (fault_of t) (sym e)
      where
        admitted : (h : Geometry) (a : Admission) → ready_by h a ≡ Err x → plan_admitted a (acts h (view h t)) ≡ refuse x
        admitted h (Err r) e = let same : r ≡ x = cc in ap refuse same
        admitted h (Ok _) e = let z : ◌≡◌ {A = ℕ} 0 1 = cc in absurd (omega arith)

        checked : (c : Result Geometry Refusal) → ready_checked admits t c ≡ Err x → plan_checked admits acts t c ≡ refuse x
        checked (Err r) e = let same : r ≡ x = cc in ap refuse same
        checked (Ok h) e = admitted h (admits h (view h t)) e

    pub plan_ready : {g : Geometry} → Ok g ≡ ready_of admits t → plan_by admits acts t ≡ acts g (view g t)
    unfolding plan_by plan_checked plan_admitted
    plan_ready {g} e =
        let r = ready_tells e in
        ap (plan_checked admits acts t) (sym r.passed) ∙ ap (λ a. plan_admitted a (acts g (view g t))) r.admitted
