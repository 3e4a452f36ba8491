-- A law for each way of the code that serves a step.
use Rattle.std.specs.Prelude.{None, Option, Some}
use Rattle.std.proofs.Common.{◌≡◌, ℕ, Bool, true, false, cond, ◌&&◌, ◌||◌, List, [], ◌∷◌, ◌++◌, length, refl, ap, ◌∙◌, arith}
use Rattle.table.specs.declared.answers.Answer.{Answer}
use Rattle.table.specs.declared.answers.Answer.TheVariants.{Done}
use Rattle.table.specs.declared.answers.Numbers.{Numbers}
use Rattle.table.specs.Answers.{malformed_numbers, Plan, refuse, nothing_left, carry, numbers_of, answer_of, numbers_at}
use Rattle.restore.specs.declared.call.Call.{Call}
use Rattle.restore.specs.Call.{plan_of, accepted, CarriedOut}
use Rattle.restore.specs.Run.{is_format, store_count}
use Rattle.restore.proofs.Laws.WholeAt.{whole_at, whole_count}
use Rattle.steps.specs.declared.serve.Progress.{Progress}
use Rattle.steps.specs.Run.{Quay, quay, counted, StepServed}
use Rattle.steps.specs.code.ServingCode.{is_done, CarriedLent}

-- the limit that the code gives, which no list reaches
abbrev unlimited : ℕ
unlimited = 18446744073709551615

-- so the answer is the whole call's
whole_answer : (t : List ℕ) (scratch : ℕ) (call : Call)
    → answer_of (plan_of t scratch call) unlimited ≡ answer_of (plan_of t scratch call) (store_count (plan_of t scratch call))
whole_answer t scratch call = go (plan_of t scratch call) refl
  where
    go : (p : Plan) → plan_of t scratch call ≡ p → answer_of p unlimited ≡ answer_of p (store_count p)
    go (refuse x) e = refl
    go nothing_left e = refl
    go (carry g x ss) e = ap (Done x) (whole_count t scratch call unlimited (omega arith) e ∙ omega arith)

-- ---- what a call is lent

module _ {whole : Bool} (call : Call) {t s s' : List ℕ} {r : Answer} where
  pub lent_whole_lem : {t' : List ℕ} → whole ≡ true → CarriedOut call unlimited t t' s s' r
      → CarriedLent whole call t t' s s' r
  lent_whole_lem h o = rw h (record {
    answer = o.meets.answer ∙ whole_answer t (length s) call;
    table = o.meets.table ∙ whole_at t (length s) call unlimited (omega arith);
    scratch = o.scratch;
  })

  -- the empty part that was lent is still empty
  pub lent_empty : {p : List ℕ} → whole ≡ false → length p ≡ 0 → CarriedOut call unlimited [] p s s' r
      → CarriedLent whole call t (p ++ t) s s' r
  lent_empty {p} h e o = rw (h, none p e) (record {
    answer = o.meets.answer ∙ whole_answer [] (length s) call;
    table = refl;
    scratch = o.scratch;
  })
    where
      none : (p : List ℕ) → length p ≡ 0 → p ≡ []
      none [] e = refl
      none (x ∷ xs) e = absurd (omega arith)

-- ---- a step served

done_is : (p : Plan) (limit : ℕ) → is_done (answer_of p limit) ≡ accepted p
done_is (refuse x) limit = refl
done_is nothing_left limit = refl
done_is (carry g x ss) limit = refl

numbers_are : (p : Plan) (limit : ℕ) → numbers_of (answer_of p limit) ≡ numbers_at p limit
numbers_are (refuse x) limit = refl
numbers_are nothing_left limit = refl
numbers_are (carry g x ss) limit = refl

module _ (p : Progress) (call : Call) (t s : List ℕ) {t' s' : List ℕ} where
  pub call_served :
      {format done : Bool} {answer : Answer} {numbers : Numbers} {p' : Progress} → format ≡ is_format call
      → CarriedLent (p.formatted || format) call t t' s s' answer → done ≡ is_done answer → numbers ≡ numbers_of answer
      → p' ≡ counted p (p.formatted || (format && done))
      → StepServed (quay t s p) (Some call) (quay t' s' p') numbers
  call_served f o d n c =
      let plan = plan_of (cond (p.formatted || is_format call) t []) (length s) call in
      let lent = rw f at o in
      let answered = lent.answer in
      let is-done = d ∙ ap is_done answered ∙ done_is plan (store_count plan) in
      record {
        state = rw (c, is-done, f, lent.table, lent.scratch) refl;
        line = n ∙ ap numbers_of answered ∙ numbers_are plan (store_count plan);
      }

pub step_served :
    {q q' : Quay} {step : Option Call} {call : Call} {numbers : Numbers} → step ≡ Some call
    → StepServed q (Some call) q' numbers → StepServed q step q' numbers
step_served e o = rw e o

pub malformed_served :
    {step : Option Call} (t s : List ℕ) (p : Progress) {p' : Progress} → step ≡ None → p' ≡ counted p p.formatted
    → StepServed (quay t s p) step (quay t s p') malformed_numbers
malformed_served t s p e c = rw (e, c) (record { state = refl; line = refl })
