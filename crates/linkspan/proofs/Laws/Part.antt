-- Laws of `specs/Report.antt`: where a node's entries lie.
use Rattle.std.specs.Prelude.{Err, Ok}
use Prim.Native.Nat.{ℕ, ◌+◌, ◌-◌, ◌*◌}
use mathlib.Core.Path.{◌≡◌, refl, sym, ap}
use mathlib.Core.List.{List}
use native.Mathlib.Omega.{arith}
use lib.ListN.{take, drop}
use Rattle.layout.specs.declared.stretch.Span.{Span}
use Rattle.table.specs.declared.answers.Refusal.{Refusal}
use Rattle.table.specs.declared.answers.Numbers.{Numbers}
use Rattle.table.specs.Geometry.{entry_words, entry_at}
use Rattle.table.specs.Answers.{Plan, refuse, nothing_left, carry, refusal_number}
use Rattle.layout.specs.Stretch.{stretch_of, stretch_part, span_by, Spanned}
use Rattle.layout.proofs.Laws.Stretch.{answer_refused, answer_yes}
use Rattle.linkspan.specs.Report.{part_start, part_words, PartReports}

-- these words of the table are the stretch
pub part_is : {t : List ℕ} {n start words r : ℕ} → PartReports t n start words r → take words (drop start t) ≡ stretch_part t n (stretch_of t n)
unfolding stretch_part
part_is {t} {n} h = rw (h.started, h.counted) (go (stretch_of t n))
  where
    go : (p : Plan) → take (part_words p) (drop (part_start n p) t) ≡ stretch_part t n p
    go (refuse x) = refl
    go nothing_left = refl
    go (carry g value ss) = refl

-- ---- the ways of the code

module _ (t : List ℕ) (n : ℕ) where
  pub part_refused : {x : Refusal} {k : ℕ} → Spanned t n (Err x) → k ≡ refusal_number x → PartReports t n 0 0 k
  part_refused s h =
      let p = answer_refused t n s in
      record { answered = rw (h, p) refl; started = rw p refl; counted = rw p refl; within = omega arith }

  pub part_found : {span : Span} → Spanned t n (Ok span) → PartReports t n span.start (span.end - span.start) 0
  unfolding span_by
  part_found {span} s =
      let k = lies (stretch_of t n) (sym s.is) in
      let w = s.within span refl in
      record {
        answered = ap (λ (x : Numbers). x.answer) ((answer_yes t n s).meets 0).numbers;
        started = k.0;
        counted = k.1;
        within = omega (arith, w.0, w.1);
      }
    where
      lies : (p : Plan) → span_by n p ≡ Ok span → (span.start ≡ part_start n p) × (span.end - span.start ≡ part_words p)
      lies (refuse x) e = let z : ◌≡◌ {A = ℕ} 0 1 = cc in absurd (omega arith)
      lies nothing_left e =
          let a : 0 ≡ span.start = cc in
          let b : 0 ≡ span.end = cc in
          (omega arith, omega arith)
      lies (carry g value ss) e =
          let a : entry_at g n 0 ≡ span.start = cc in
          let b : entry_at g n 0 + entry_words * g.items ≡ span.end = cc in
          (omega arith, omega arith)
