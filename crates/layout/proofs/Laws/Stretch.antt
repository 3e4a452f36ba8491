-- The laws of `specs/Stretch.antt`.
use Rattle.std.specs.Prelude.{Err, Ok, Result}
use Prim.Native.Nat.{ℕ, ◌+◌, ◌-◌, ◌*◌, ◌<◌, ◌≤◌}
use mathlib.Core.Path.{◌≡◌, refl, sym, ap, ◌∙◌}
use mathlib.Core.List.{List, []}
use native.Mathlib.Omega.{arith}
use native.Mathlib.Nat.{suc-mul, mul-le-mul_right}
use lib.Dec.{leb}
use lib.ListN.{length, take, drop}
use borrow.Author.Tests.{le-leb, lt-leb}
use Rattle.counting.proofs.Laws.Tests.{by_cases}
use Rattle.table.specs.declared.geometry.Geometry.{Geometry}
use Rattle.table.specs.declared.answers.Refusal.{Refusal}
use Rattle.table.specs.declared.answers.Refusal.TheVariants.{NoNode}
use Rattle.table.specs.declared.answers.Answer.TheVariants.{Done}
use Rattle.layout.specs.declared.stretch.Span.{Span}
use Rattle.table.specs.Geometry.{entry_words, entry_at}
use Rattle.entries.specs.Check.{sizes_of, fault_of}
use Rattle.entries.proofs.Laws.CheckFacts.{sizes_facts}
use Rattle.table.specs.Answers.{Plan, refuse, nothing_left, carry, Told}
use Rattle.table.proofs.Laws.Answers.{told_done}
use Rattle.layout.specs.Stretch.{checked_plan, check_of, stretch_checked, stretch_of, stretch_part, span_by, Spanned}

-- ---- the ways of the code

module _ (t : List ℕ) where
  pub check_failed : {x : Refusal} → Err x ≡ fault_of t → check_of t ≡ refuse x
  unfolding checked_plan
  check_failed e = ap checked_plan (sym e)

  pub check_passed : {g : Geometry} → Ok g ≡ fault_of t → check_of t ≡ carry g 0 []
  unfolding checked_plan
  check_passed e = ap checked_plan (sym e)

never_entries : {x : Refusal} {span : Span} → Err x ≡ Ok span → ⊥
never_entries e = let z : ◌≡◌ {A = ℕ} 0 1 = cc in omega arith

module _ (t : List ℕ) (n : ℕ) where
  span_refused : {x : Refusal} → stretch_of t n ≡ refuse x → Spanned t n (Err x)
  unfolding span_by
  span_refused e = record { is = sym (ap (span_by n) e); within = λ _ k. absurd (never_entries k) }

  pub span_failed : {x : Refusal} → Err x ≡ sizes_of t → Spanned t n (Err x)
  unfolding stretch_checked
  span_failed e = span_refused (ap (stretch_checked n) (sym e))

  module _ {g : Geometry} (e : Ok g ≡ sizes_of t) where
    pub span_no_node : g.nodes ≤ n → Spanned t n (Err NoNode)
    unfolding stretch_checked
    span_no_node l = span_refused (ap (stretch_checked n) (sym e) ∙ rw (le-leb g.nodes n l) refl)

    -- it lies within the table
    stretch_within : n < g.nodes → entry_at g n 0 + entry_words * g.items ≤ length t
    stretch_within l =
        let s = sizes_facts t g (sym e) in
        let p = rw suc-mul at (mul-le-mul_right g.items l) in
        omega (arith, s.long)

    pub span_found : n < g.nodes → {start : ℕ} → start ≡ entry_at g n 0 → Spanned t n (Ok (record { start = start; end = start + entry_words * g.items }))
    unfolding span_by stretch_checked
    span_found l {start} q =
        let p : stretch_of t n ≡ carry g 0 [] = ap (stretch_checked n) (sym e) ∙ rw (lt-leb g.nodes n l) refl in
        let h = stretch_within l in
        record {
          is = rw (p, q) refl;
          within = λ span k.
              let a : start ≡ span.start = cc in
              let b : start + entry_words * g.items ≡ span.end = cc in
              (omega arith, omega arith);
        }

-- the part that the code gives, and the answer
module _ (t : List ℕ) (n : ℕ) where
  found_part : (p : Plan) {span : Span} → span_by n p ≡ Ok span → take (span.end - span.start) (drop span.start t) ≡ stretch_part t n p
  unfolding span_by stretch_part
  found_part (refuse x) e = absurd (never_entries e)
  found_part nothing_left {span} e =
      let a : 0 ≡ span.start = cc in
      let b : 0 ≡ span.end = cc in
      rw (← a, ← b) refl
  found_part (carry g value ss) {span} e =
      let a : entry_at g n 0 ≡ span.start = cc in
      let b : entry_at g n 0 + entry_words * g.items ≡ span.end = cc in
      let d : span.end - span.start ≡ entry_words * g.items = omega arith in
      rw (d, ← a) refl

  empty_part : (p : Plan) {x : Refusal} → span_by n p ≡ Err x → [] ≡ stretch_part t n p
  unfolding span_by stretch_part
  empty_part (refuse x) e = refl
  empty_part nothing_left e = absurd (never_entries (sym e))
  empty_part (carry g value ss) e = absurd (never_entries (sym e))

  pub stretch_found : {span : Span} → Spanned t n (Ok span) → take (span.end - span.start) (drop span.start t) ≡ stretch_part t n (stretch_of t n)
  stretch_found s = found_part (stretch_of t n) (sym s.is)

  pub stretch_empty : {x : Refusal} → Spanned t n (Err x) → [] ≡ stretch_part t n (stretch_of t n)
  stretch_empty s = empty_part (stretch_of t n) (sym s.is)

  pub answer_refused : {x : Refusal} → Spanned t n (Err x) → stretch_of t n ≡ refuse x
  unfolding span_by
  answer_refused {x} s = go (stretch_of t n) (sym s.is)
    where
      go : (p : Plan) → span_by n p ≡ Err x → p ≡ refuse x
      go (refuse y) e = let q : y ≡ x = cc in ap refuse q
      go nothing_left e = absurd (never_entries (sym e))
      go (carry g value ss) e = absurd (never_entries (sym e))

  pub answer_yes : {span : Span} → Spanned t n (Ok span) → Told (stretch_of t n) t (Done 0 0)
  unfolding span_by stretch_checked
  answer_yes {span} s = go (sizes_of t) (sym s.is)
    where
      go : (c : Result Geometry Refusal) → span_by n (stretch_checked n c) ≡ Ok span → Told (stretch_checked n c) t (Done 0 0)
      go (Err x) e = absurd (never_entries e)
      go (Ok g) e = by_cases (leb g.nodes n) (λ l. absurd (never_entries (rw l at e))) (λ l. rw l (told_done t refl))
