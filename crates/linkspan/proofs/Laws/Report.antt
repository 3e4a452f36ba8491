-- The laws of `specs/Report.antt`.
use Prim.Native.Nat.{ℕ}
use mathlib.Core.Path.{◌≡◌, refl, ap, ◌∙◌}
use mathlib.Core.List.{List}
use Rattle.table.specs.declared.answers.Answer.{Answer}
use Rattle.table.specs.declared.answers.Numbers.{Numbers}
use Rattle.table.specs.Answers.{malformed_numbers, Plan, numbers_of, numbers_at, Meets, Told}
use Rattle.recovery.specs.Recover.{RecoverMeets}
use Rattle.linkspan.specs.Report.{Asked, malformed, planned, HandedOut, Reports, RecoverReports, Tells}

-- ---- the ways of the code

module _ {a : Asked} {limit : ℕ} {t : List ℕ} {value stores r : ℕ} where
  pub reports_malformed : a ≡ malformed → HandedOut malformed_numbers value stores r → Reports a limit t t value stores r
  reports_malformed e h = rw e (record { handed = h; table = refl })

  pub reports_planned :
      {p : Plan} {t' : List ℕ} {answer : Answer} → a ≡ planned p → Meets p limit t t' answer → HandedOut (numbers_of answer) value stores r
      → Reports a limit t t' value stores r
  reports_planned {p} e m h =
      let k : HandedOut (numbers_at p limit) value stores r = rw m.numbers at h in
      rw e (record { handed = k; table = m.table })

  module _ {s : List ℕ} where
    pub recover_malformed : a ≡ malformed → HandedOut malformed_numbers value stores r → RecoverReports a limit t t s s value stores r
    recover_malformed e h = record { reports = reports_malformed e h; scratch = rw e refl }

    pub recover_planned :
        {p : Plan} {t' s' : List ℕ} {answer : Answer} → a ≡ planned p → RecoverMeets p limit t t' s s' answer → HandedOut (numbers_of answer) value stores r
        → RecoverReports a limit t t' s s' value stores r
    recover_planned e m h = record { reports = reports_planned e m.meets h; scratch = rw e m.scratch }

-- a call whose arguments are numbers as they are
pub reports_call :
    {p : Plan} {limit : ℕ} {t t' : List ℕ} {value stores r : ℕ} {answer : Answer} → Meets p limit t t' answer → HandedOut (numbers_of answer) value stores r
    → Reports (planned p) limit t t' value stores r
reports_call m h = reports_planned refl m h

-- a call that stores nothing: its number
pub told_number : {p : Plan} {t : List ℕ} {answer : Answer} {n : Numbers} → Told p t answer → n ≡ numbers_of answer → n.answer ≡ (numbers_at p 0).answer
told_number m e = ap (λ (x : Numbers). x.answer) (e ∙ (m.meets 0).numbers)

-- and its value
pub told_tells :
    {p : Plan} {t : List ℕ} {answer : Answer} {n : Numbers} → Told p t answer → n ≡ numbers_of answer
    → Tells p n.value n.answer
told_tells m e =
    record { answered = told_number m e; valued = ap (λ (x : Numbers). x.value) (e ∙ (m.meets 0).numbers) }
