-- Laws of `specs/Admission.antt`: the common shape of a call's plan.
use Rattle.std.specs.Prelude.{Err, Ok, Result}
use Prim.Native.Nat.{ℕ}
use mathlib.Core.Path.{◌≡◌, refl, sym, ap, ◌∙◌}
use mathlib.Core.List.{List}
use native.Mathlib.Omega.{arith}
use Rattle.table.specs.declared.geometry.Geometry.{Geometry}
use Rattle.table.specs.declared.answers.Refusal.{Refusal}
use Rattle.table.specs.declared.answers.Answer.{Answer}
use Rattle.table.specs.declared.answers.Answer.TheVariants.{NothingLeft}
use Rattle.table.specs.Stores.{Store}
use Rattle.table.specs.View.{View, view}
use Rattle.table.specs.Answers.{Plan, refuse, nothing_left, carry, Meets}
use Rattle.entries.specs.Check.{fault_of}
use Rattle.homes.specs.Admission.{Admission, plan_admitted, plan_checked, plan_by}

-- ---- the ways of the code: failed, turned down, admitted

module _ (admits : Geometry → View → Admission) (acts : Geometry → View → Plan) (t : List ℕ) where
  pub plan_failed : {c : Result Geometry Refusal} {r : Refusal} → c ≡ fault_of t → c ≡ Err r → plan_by admits acts t ≡ refuse r
  unfolding plan_by plan_checked
  plan_failed e h = ap (plan_checked admits acts t) (sym e ∙ h)

  module _ {c : Result Geometry Refusal} {g : Geometry} (e : c ≡ fault_of t) (h : c ≡ Ok g) {a : Admission} (k : a ≡ admits g (view g t)) where
    pub plan_turned : {r : Refusal} → a ≡ Err r → plan_by admits acts t ≡ refuse r
    unfolding plan_by plan_checked plan_admitted
    plan_turned q = ap (plan_checked admits acts t) (sym e ∙ h) ∙ ap (λ x. plan_admitted x (acts g (view g t))) (sym k ∙ q)

    pub plan_admitted_lem : a ≡ Ok tt → plan_by admits acts t ≡ acts g (view g t)
    unfolding plan_by plan_checked plan_admitted
    plan_admitted_lem q = ap (plan_checked admits acts t) (sym e ∙ h) ∙ ap (λ x. plan_admitted x (acts g (view g t))) (sym k ∙ q)

-- ---- what a call that was carried out tells: the table passed its checks, the call was admitted, and this is what it did

pub record Acted (admits : Geometry → View → Admission) (acts : Geometry → View → Plan) (t : List ℕ) (p : Plan) : Type 0 where
  pub geometry : Geometry
  pub passed : fault_of t ≡ Ok geometry
  pub admitted : admits geometry (view geometry t) ≡ Ok tt
  pub plan : acts geometry (view geometry t) ≡ p

pub plan_acted :
    (admits : Geometry → View → Admission) (acts : Geometry → View → Plan) (t : List ℕ) {g : Geometry} {x : ℕ} {ss : List Store}
    → plan_by admits acts t ≡ carry g x ss → Acted admits acts t (carry g x ss)
unfolding plan_by plan_checked plan_admitted
plan_acted admits acts t {g} {x} {ss} e = checked (fault_of t) refl e
  where
    admitted :
        (h : Geometry) → fault_of t ≡ Ok h → (a : Admission) → a ≡ admits h (view h t) → plan_admitted a (acts h (view h t)) ≡ carry g x ss
        → Acted admits acts t (carry g x ss)
    admitted h p (Err r) k e = let z : ◌≡◌ {A = ℕ} 0 1 = cc in absurd (omega arith)
    admitted h p (Ok _) k e = record { geometry = h; passed = p; admitted = sym k; plan = e }

    checked : (c : Result Geometry Refusal) → c ≡ fault_of t → plan_checked admits acts t c ≡ carry g x ss → Acted admits acts t (carry g x ss)
    checked (Err r) p e = let z : ◌≡◌ {A = ℕ} 0 1 = cc in absurd (omega arith)
    checked (Ok h) p e = admitted h (sym p) (admits h (view h t)) refl e

-- a call that only ever stores by its own geometry's list
pub record Carried (admits : Geometry → View → Admission) (stores : Geometry → View → List Store) (t : List ℕ) (g : Geometry) (ss : List Store) : Type 0 where
  pub passed : fault_of t ≡ Ok g
  pub admitted : admits g (view g t) ≡ Ok tt
  pub stores_are : ss ≡ stores g (view g t)

pub acted_carried :
    (admits : Geometry → View → Admission) (value : Geometry → View → ℕ) (stores : Geometry → View → List Store) (t : List ℕ) {g : Geometry} {x : ℕ}
    {ss : List Store} → plan_by admits (λ g v. carry g (value g v) (stores g v)) t ≡ carry g x ss → Carried admits stores t g ss
acted_carried admits value stores t {g} {x} {ss} e =
    let a = plan_acted admits (λ g v. carry g (value g v) (stores g v)) t e in
    let h = a.geometry in
    let q : carry h (value h (view h t)) (stores h (view h t)) ≡ carry g x ss = a.plan in
    let same : h ≡ g = cc in
    let list : stores h (view h t) ≡ ss = cc in
    record { passed = rw same at a.passed; admitted = rw same at a.admitted; stores_are = rw same at (sym list) }

-- and its value
pub acted_value :
    (admits : Geometry → View → Admission) (value : Geometry → View → ℕ) (stores : Geometry → View → List Store) (t : List ℕ) {g : Geometry} {x : ℕ}
    {ss : List Store} → plan_by admits (λ g v. carry g (value g v) (stores g v)) t ≡ carry g x ss → x ≡ value g (view g t)
acted_value admits value stores t {g} {x} {ss} e =
    let a = plan_acted admits (λ g v. carry g (value g v) (stores g v)) t e in
    let h = a.geometry in
    let q : carry h (value h (view h t)) (stores h (view h t)) ≡ carry g x ss = a.plan in
    let same : h ≡ g = cc in
    let answer : value h (view h t) ≡ x = cc in
    rw same at (sym answer)

-- ---- contracts

-- the same plan, written otherwise
pub meets_as : {p q : Plan} {limit : ℕ} {t t' : List ℕ} {r : Answer} → p ≡ q → Meets q limit t t' r → Meets p limit t t' r
meets_as e m = rw e m

-- "Answer 17, no stores, if none is left."
pub meets_nothing : {p : Plan} (limit : ℕ) (t : List ℕ) → p ≡ nothing_left → Meets p limit t t NothingLeft
meets_nothing limit t h = rw h (record { answer = refl; numbers = refl; table = refl })
