-- The laws of `specs/code/MarksLoop.antt`.
use Rattle.std.specs.Prelude.{cond, Some, None}
use mathlib.Core.Path.{◌≡◌, refl, sym, ap, ap₂, ◌∙◌}
use mathlib.Core.Bool.{Bool, true, false, not, ◌&&◌, and-true, and-false, and_assoc}
use Prim.Native.Nat.{ℕ, ◌+◌, ◌≤◌, ◌<◌}
use native.Mathlib.Omega.{arith}
use Rattle.table.specs.Words.{mark_form, phase_of, number_of, mark_word}
use Rattle.table.proofs.Laws.Forms.{live_mark}
use lib.Dec.{eqb}
use borrow.Author.Tests.{eqb-true, eqb-false, eq-eqb, not-true, not-false}
use Rattle.table.specs.View.{View, live}
use Rattle.counting.proofs.Laws.Tests.{both, no_both, and_both, by_cases, bool_iff}
use Rattle.counting.proofs.Laws.Counting.{every_at, every_all}
use Rattle.counting.specs.Values.{values_of}
use Rattle.counting.proofs.Laws.Values.{values_next, first_holds, first_of, values_equal, equal_values}
use Rattle.entries.specs.Sound.{marks_form, phases_of, points_of, marks_agree, nodes_sound, items_sound, sound}
use Rattle.table.specs.declared.geometry.Geometry.{Geometry}
use Rattle.entries.specs.code.MarksLoop.{marks_of, mark_met, marks_test}

-- ---- the loop: the live marks below n are one word, which is 0 as long as there was none

pub record Marking (v : View) (n first : ℕ) : Type 0 where
  pub seen : (marks_of v n).seen ≡ not (eqb first 0)
  pub first_is : first ≡ (marks_of v n).first
  pub equal_is : (marks_of v n).equal ≡ true

pub marking_none : (v : View) → Marking v 0 0
unfolding marks_of values_of
marking_none v = record { seen = refl; first_is = refl; equal_is = refl }

-- a mark that is neither dead nor the first
abbrev differs : ℕ → ℕ → Bool
differs w r = not (eqb w 0) && not (eqb w r)

module _ (v : View) (n first : ℕ) (s : Marking v n first) (w : ℕ) (e : w ≡ v.mark n) (r : ℕ) (k : r ≡ cond (eqb first 0) w first) where
  pub marking_next : differs w r ≡ false → Marking v (n + 1) r
  unfolding marks_of
  marking_next d =
      let next = values_next n (live v) v.mark in
      by_cases (eqb w 0)
      (λ y. let same : r ≡ first = rw k (by_cases (eqb first 0) (λ z. rw z (eqb-true w 0 y ∙ sym (eqb-true first 0 z))) (λ z. rw z refl)) in
      rw same (record {
        seen = rw (next, ← e, y) s.seen;
        first_is = rw (next, ← e, y) s.first_is;
        equal_is = rw (next, ← e, y) s.equal_is;
      }))
      (λ y. by_cases (eqb first 0)
      (λ z. let same : r ≡ w = rw (k, z) refl in
      let u : (marks_of v n).seen ≡ false = s.seen ∙ rw z refl in
      rw same (record {
        seen = rw (next, ← e, y, u) refl;
        first_is = rw (next, ← e, y, u) refl;
        equal_is = rw (next, ← e, y, u) s.equal_is;
      }))
      (λ z. let same : r ≡ first = rw (k, z) refl in
      let u : (marks_of v n).seen ≡ true = s.seen ∙ rw z refl in
      let is : eqb w first ≡ true = ap (eqb w) (sym same) ∙ not-false _ (rw y at d) in
      rw same (record {
        seen = rw (next, ← e, y, u, z) refl;
        first_is = rw (next, ← e, y, u) s.first_is;
        equal_is = rw (next, ← e, y, u, ← s.first_is, is) (and-true _ ∙ s.equal_is);
      })))

  pub marking_fails : {m : ℕ} → n < m → differs w r ≡ true → None ≡ mark_met v m
  unfolding marks_of mark_met
  marking_fails {m} l d = rw (by_cases (marks_of v m).equal (λ h. absurd (no_both (fewer h) apart)) (λ h. h)) refl
    where
      fewer : (marks_of v m).equal ≡ true → (marks_of v (n + 1)).equal ≡ true
      fewer h = (equal_values (n + 1) (live v) v.mark (marks_of v m).first (λ j q. values_equal m (live v) v.mark h j (omega arith))).0

      apart : (marks_of v (n + 1)).equal ≡ false
      apart =
          let d' = both (not (eqb w 0)) d in
          let y : eqb w 0 ≡ false = not-true _ d'.0 in
          let q : eqb w r ≡ false = not-true _ d'.1 in
          by_cases (eqb first 0)
          (λ z. let same : w ≡ r = rw (k, z) refl in absurd (no_both (eq-eqb w r same) q))
          (λ z. let same : r ≡ first = rw (k, z) refl in
          let u : (marks_of v n).seen ≡ true = s.seen ∙ rw z refl in
          let t : eqb w first ≡ false = ap (eqb w) (sym same) ∙ q in
          rw (values_next n (live v) v.mark, ← e, y, u, ← s.first_is, t) (and-false _))

pub marking_all : (v : View) (n k first : ℕ) → Marking v n first → n ≤ k → k ≤ n → Some first ≡ mark_met v k
unfolding mark_met
marking_all v n k first s h g = let e : n ≡ k = omega arith in rw (← e, s.equal_is, s.first_is) refl

-- ---- what the live marks tell

module _ (v : View) (n : ℕ) where
  pub marks_phase : (phases_of v n).first ≡ phase_of (marks_of v n).first
  unfolding phases_of marks_of
  marks_phase = first_of (live v) v.mark phase_of n refl

  marks_number : (points_of v n).first ≡ number_of (marks_of v n).first
  unfolding points_of marks_of
  marks_number = first_of (live v) v.mark number_of n refl

  forms_tell : (marks_form v n && marks_agree (phases_of v n) (points_of v n)) ≡ true → ((marks_of v n).equal && marks_test (marks_of v n).first) ≡ true
  unfolding marks_form phases_of points_of marks_of
  forms_tell h =
      let h₁ = both (marks_form v n) h in
      let h₂ = both (phases_of v n).equal h₁.1 in
      let h₃ = both (points_of v n).equal h₂.1 in
      let form = every_at n (λ k. mark_form (v.mark k)) h₁.0 in
      let word : (m : ℕ) → m < n → live v m ≡ true → v.mark m ≡ mark_word (phases_of v n).first (points_of v n).first =
      λ m l t. (live_mark (v.mark m) (form m l) (eqb-false (v.mark m) 0 (not-true (eqb (v.mark m) 0) t))).0
      ∙ ap₂ mark_word (values_equal n (live v) _ h₂.0 m l t) (values_equal n (live v) _ h₃.0 m l t) in
      and_both (equal_values n (live v) v.mark _ word).0
      (and_both (first_holds (live v) v.mark mark_form n refl (λ m l _. form m l))
      (rw (← marks_phase, ← marks_number) h₃.1))

  tell_forms : ((marks_of v n).equal && marks_test (marks_of v n).first) ≡ true → (marks_form v n && marks_agree (phases_of v n) (points_of v n)) ≡ true
  unfolding marks_form phases_of points_of marks_of
  tell_forms h =
      let h₁ = both (marks_of v n).equal h in
      let h₂ = both (mark_form (marks_of v n).first) h₁.1 in
      let same : (m : ℕ) → m < n → live v m ≡ true → v.mark m ≡ (marks_of v n).first = values_equal n (live v) v.mark h₁.0 in
      and_both
      (every_all n (λ k. mark_form (v.mark k)) (λ m l. by_cases (eqb (v.mark m) 0)
      (λ z. rw (eqb-true (v.mark m) 0 z) refl) (λ d. ap mark_form (same m l (rw d refl)) ∙ h₂.0)))
      (and_both (equal_values n (live v) _ _ (λ m l t. ap phase_of (same m l t))).0
      (and_both (equal_values n (live v) _ _ (λ m l t. ap number_of (same m l t))).0
      (rw (marks_phase, marks_number) h₂.1)))

  pub marks_tell : (marks_form v n && marks_agree (phases_of v n) (points_of v n)) ≡ ((marks_of v n).equal && marks_test (marks_of v n).first)
  marks_tell = bool_iff _ _ forms_tell tell_forms

-- all tests together, as the code makes them
pub marks_sound :
    (g : Geometry) (v : View) → let m = marks_of v g.nodes in
    sound g v ≡ (m.equal && (marks_test m.first && (nodes_sound g v && items_sound g v (phase_of m.first))))
unfolding sound
marks_sound g v =
    with_rest (nodes_sound g v && items_sound g v (phases_of v g.nodes).first)
    ∙ ap (λ p. let m = marks_of v g.nodes in m.equal && (marks_test m.first && (nodes_sound g v && items_sound g v p))) (marks_phase v g.nodes)
  where
    with_rest : (rest : Bool) → let n = g.nodes in let m = marks_of v n in (marks_form v n && (marks_agree (phases_of v n) (points_of v n) && rest)) ≡ (m.equal && (marks_test m.first && rest))
    with_rest rest = sym (and_assoc (marks_form v g.nodes) _ rest) ∙ ap (λ q. q && rest) (marks_tell v g.nodes) ∙ and_assoc (marks_of v g.nodes).equal _ rest
