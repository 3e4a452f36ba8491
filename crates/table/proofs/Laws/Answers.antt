-- The laws of `specs/Answers.antt`.
use Prim.Native.Nat.{ℕ, ◌-◌, min}
use mathlib.Core.Path.{◌≡◌, refl, sym, ap}
use mathlib.Core.List.{List, []}
use native.Mathlib.Omega.{arith}
use lib.ListN.{length}
use Rattle.table.specs.declared.geometry.Geometry.{Geometry}
use Rattle.table.specs.declared.answers.Refusal.{Refusal}
use Rattle.table.specs.declared.answers.Answer.{Answer}
use Rattle.table.specs.declared.answers.Answer.TheVariants.{Done, Refused}
use Rattle.table.specs.Stores.{Store, Stored}
use Rattle.table.proofs.Laws.Stores.{after_none}
use Rattle.table.specs.Answers.{refusal_number, numbers_of, Plan, refuse, carry, Meets, Told}

-- a refusal is not carried out
pub refused_not : {r : Refusal} {g : Geometry} {x : ℕ} {ss : List Store} → refuse r ≡ carry g x ss → ⊥
refused_not e = let z : ◌≡◌ {A = ℕ} 0 1 = cc in omega arith

pub meets_refused : {p : Plan} {x : Refusal} (limit : ℕ) (t : List ℕ) → p ≡ refuse x → Meets p limit t t (Refused x)
meets_refused limit t h = rw h (record { answer = refl; numbers = refl; table = refl })

pub meets_done :
    {p : Plan} {g : Geometry} {v left : ℕ} {ss : List Store} (limit : ℕ) {t t' : List ℕ} → p ≡ carry g v ss → Stored g limit ss t t' left
    → Meets p limit t t' (Done v (limit - left))
meets_done {v = v} {left} {ss} limit h s =
    let e : limit - left ≡ min limit (length ss) = omega arith in
    rw h (record { answer = ap (Done v) e; numbers = ap (λ k. numbers_of (Done v k)) e; table = s.table })

-- the numbers of a refusal whose own number is n
pub numbers_refused :
    {a : Answer} {x : Refusal} {n : ℕ} → a ≡ Refused x → n ≡ refusal_number x
    → record { answer = n; value = 0; stores = 0 } ≡ numbers_of a
numbers_refused h k = rw (h, k) refl

pub told_refused : {p : Plan} {x : Refusal} (t : List ℕ) → p ≡ refuse x → Told p t (Refused x)
told_refused t h = record { meets = λ limit. meets_refused limit t h }

pub told_done : {p : Plan} {g : Geometry} {value : ℕ} (t : List ℕ) → p ≡ carry g value [] → Told p t (Done value 0)
told_done {value = value} t h =
    record {
      meets = λ limit. rw h (record {
        answer = ap (Done value) (omega arith);
        numbers = ap (λ k. numbers_of (Done value k)) (omega arith);
        table = sym (after_none _ limit t);
      });
    }
