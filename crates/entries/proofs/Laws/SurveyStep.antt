-- One entry more in the survey: of a live node, and one that holds nothing.
use Prim.Native.Nat.{ℕ, zero, suc, ◌+◌, ◌/◌, ◌%◌, ◌^◌, ◌<◌}
use mathlib.Core.Path.{◌≡◌, refl, sym, ap, ap₂, ◌∙◌}
use mathlib.Core.Bool.{Bool, true, false, not, cond, ◌&&◌, ◌||◌, and-true}
use native.Mathlib.Omega.{arith}
use native.Mathlib.Numerals.{add-one}
use lib.Dec.{eqb}
use borrow.Author.Tests.{eq-eqb}
use Rattle.counting.proofs.Laws.Tests.{by_cases, no_both, and_mixed, eqb_swap}
use Rattle.counting.specs.Counting.{every}
use Rattle.counting.proofs.Laws.Counting.{sum_next}
use Rattle.counting.specs.Values.{Values, met_of, values_of}
use Rattle.counting.proofs.Laws.Values.{values_next}
use Rattle.table.specs.View.{View, live}
use Rattle.entries.specs.code.Survey.{codes_form, holds, keeps, holds_at, keeps_at, frames_by, top_at, live_top, weight_of, weight_at, held_values, kept_values, Noted, agrees_at}
use Rattle.entries.specs.code.SurveyRow.{first_with, kept_with, same_with, same_kept}
use Rattle.entries.proofs.Laws.SurveyFields.{weight_holds, weight_keeps, weight_small, tally_held, tally_kept, tally_small}

-- ---- the first value and one entry more, which has a copy or not

module _ (s : Values) (has none : Bool) (f x : ℕ) (z : none ≡ not s.seen) (k : s.seen ≡ true → f ≡ s.first) where
  first_step : (cond has (met_of s x) s).seen ≡ true → cond none x f ≡ (cond has (met_of s x) s).first
  first_step h = by_cases s.seen
      (λ e. by_cases has (λ q. rw (z, q, e) (k e)) (λ q. rw (z, q, e) (k e)))
      (λ e. by_cases has (λ q. rw (z, q, e) refl) (λ q. absurd (no_both (rw q at h) e)))

  same_step : (not-has : Bool) → not-has ≡ not has → eqb (cond none x f) (cond not-has (cond none x f) x) ≡ (not has || (not s.seen || eqb x s.first))
  same_step not-has n = by_cases has
      (λ q. by_cases s.seen (λ e. rw (z, n, q, e) (eqb_swap f x ∙ ap (eqb x) (k e))) (λ e. rw (z, n, q, e) (eq-eqb x x refl)))
      (λ q. rw (n, q) (eq-eqb (cond none x f) (cond none x f) refl))

equal_step : (s : Values) (has : Bool) (x : ℕ) → (cond has (met_of s x) s).equal ≡ (s.equal && (not has || (not s.seen || eqb x s.first)))
equal_step s has x = by_cases has
    (λ q. by_cases s.seen (λ e. rw (q, e) refl) (λ e. rw (q, e) (sym (and-true s.equal))))
    (λ q. rw q (sym (and-true s.equal)))

-- ---- an entry

weight_none : weight_of 0 ≡ 0
unfolding weight_of codes_form holds holds_at keeps_at frames_by
weight_none = refl

holds_none : holds 0 ≡ false
unfolding holds codes_form
holds_none = refl

keeps_none : keeps 0 ≡ false
unfolding keeps codes_form
keeps_none = refl

module _ (v : View) (b n : ℕ) where
  held_next : held_values v b (n + 1) ≡ cond (live_top holds v b n) (met_of (held_values v b n) (v.entry n b).value) (held_values v b n)
  unfolding held_values
  held_next = values_next n (live_top holds v b) (λ m. (v.entry m b).value)

  kept_next : kept_values v b (n + 1) ≡ cond (live_top keeps v b n) (met_of (kept_values v b n) (v.entry n b).kept_value) (kept_values v b n)
  unfolding kept_values
  kept_next = values_next n (live_top keeps v b) (λ m. (v.entry m b).kept_value)

  -- an entry of no weight, with no copy
  noted_quiet :
      {t f h : ℕ} → weight_at v b n ≡ 0 → live_top holds v b n ≡ false → live_top keeps v b n ≡ false → Noted v b n t f h → Noted v b (n + 1) t f h
  noted_quiet w a k p =
      let held : held_values v b (n + 1) ≡ held_values v b n = held_next ∙ rw a refl in
      let kept : kept_values v b (n + 1) ≡ kept_values v b n = kept_next ∙ rw k refl in
      record {
        tally = omega (arith, p.tally, sym (sum_next (weight_at v b) n refl refl), w);
        first = rw held p.first;
        kept = rw kept p.kept;
      }

  -- a dead node's entry
  module _ (l : live v n ≡ false) where
    dead_weight : weight_at v b n ≡ 0
    unfolding weight_at
    dead_weight = rw l refl

    pub noted_dead : {t f h : ℕ} → Noted v b n t f h → Noted v b (n + 1) t f h
    noted_dead p = noted_quiet dead_weight (rw l refl) (rw l refl) p

    pub agrees_dead : agrees_at v b n ≡ true
    unfolding agrees_at
    agrees_dead = rw l refl

  -- an entry that holds nothing
  module _ (e : (v.entry n b).state ≡ 0) where
    blank_top : top_at v b n ≡ 0
    blank_top = ap (λ w. w / 2 ^ 58) e

    blank_test : (p : ℕ → Bool) → p 0 ≡ false → live_top p v b n ≡ false
    blank_test p h = by_cases (live v n) (λ l. rw l (ap p blank_top ∙ h)) (λ l. rw l refl)

    blank_weight : weight_at v b n ≡ 0
    unfolding weight_at
    blank_weight = by_cases (live v n) (λ l. rw l (ap weight_of blank_top ∙ weight_none)) (λ l. rw l refl)

    -- nothing to agree with
    pub agrees_blank : agrees_at v b n ≡ true
    unfolding agrees_at
    agrees_blank = rw (blank_test holds holds_none, blank_test keeps keeps_none) refl

  pub noted_blank : {t f h : ℕ} → Noted v b n t f h → (v.entry n b).state ≡ 0 → Noted v b (n + 1) t f h
  noted_blank p e = noted_quiet (blank_weight e) (blank_test e holds holds_none) (blank_test e keeps keeps_none) p

  -- all values met agree exactly if they did and those of this node do
  pub equal_next :
      ((held_values v b (n + 1)).equal && (kept_values v b (n + 1)).equal) ≡ (((held_values v b n).equal && (kept_values v b n).equal) && agrees_at v b n)
  unfolding agrees_at
  equal_next =
      ap₂ (λ x y. x.equal && y.equal) held_next kept_next
      ∙ ap₂ ◌&&◌ (equal_step (held_values v b n) (live_top holds v b n) _) (equal_step (kept_values v b n) (live_top keeps v b n) _)
      ∙ and_mixed (held_values v b n).equal _ (kept_values v b n).equal _

  module _ {t f h : ℕ} (p : Noted v b n t f h) (l : live v n ≡ true) (few : n < 31) (small : top_at v b n < 64) where
    none_held : eqb (t % 32) 0 ≡ not (held_values v b n).seen
    none_held = ap (λ s. eqb (s % 32) 0) p.tally ∙ tally_held v b n (omega arith)

    none_kept : eqb (t / 32 % 1024) 0 ≡ not (kept_values v b n).seen
    none_kept = ap (λ s. eqb (s / 32 % 1024) 0) p.tally ∙ tally_kept v b n (omega arith)

    live_test : (q : ℕ → Bool) → live_top q v b n ≡ q (top_at v b n)
    live_test q = rw l refl

    pub noted_room : t + weight_of (top_at v b n) < 2 ^ 64
    noted_room = omega (arith, p.tally, tally_small v b n (omega arith), weight_small (top_at v b n) small)

    module _ {w x y : ℕ} (i : w ≡ weight_of (top_at v b n)) (j : x ≡ (v.entry n b).value) (k : y ≡ (v.entry n b).kept_value) where
      weight_live : weight_at v b n ≡ w
      unfolding weight_at
      weight_live = rw l (sym i)

      pub noted_next : Noted v b (n + 1) (t + w) (first_with t f x) (kept_with t h y)
      noted_next = record {
        tally = omega (arith, p.tally, sym (sum_next (weight_at v b) n refl refl), weight_live);
        first = rw (held_next, j) (first_step (held_values v b n) (live_top holds v b n) (eqb (t % 32) 0) f (v.entry n b).value none_held p.first);
        kept = rw (kept_next, k) (first_step (kept_values v b n) (live_top keeps v b n) (eqb (t / 32 % 1024) 0) h (v.entry n b).kept_value none_kept p.kept);
      }

      -- the code's tests of the values
      pub noted_same : (same_with w (first_with t f x) x && same_kept w (kept_with t h y) y) ≡ agrees_at v b n
      unfolding agrees_at
      noted_same =
          let held : same_with w (first_with t f x) x ≡ (not (live_top holds v b n) || (not (held_values v b n).seen || eqb (v.entry n b).value (held_values v b n).first)) =
          rw j (same_step (held_values v b n) (live_top holds v b n) (eqb (t % 32) 0) f (v.entry n b).value none_held p.first (eqb (w % 32) 0)
          (ap (λ s. eqb (s % 32) 0) i ∙ weight_holds (top_at v b n) small ∙ ap not (sym (live_test holds)))) in
          let kept : same_kept w (kept_with t h y) y ≡ (not (live_top keeps v b n) || (not (kept_values v b n).seen || eqb (v.entry n b).kept_value (kept_values v b n).first)) =
          rw k (same_step (kept_values v b n) (live_top keeps v b n) (eqb (t / 32 % 1024) 0) h (v.entry n b).kept_value none_kept p.kept (eqb (w / 32 % 1024) 0)
          (ap (λ s. eqb (s / 32 % 1024) 0) i ∙ weight_keeps (top_at v b n) small ∙ ap not (sym (live_test keeps)))) in
          ap₂ ◌&&◌ held kept

-- the values met on the nodes below n are equal exactly if each node's agree with those before
pub agrees_all : (v : View) (b n : ℕ) → every (agrees_at v b) n ≡ ((held_values v b n).equal && (kept_values v b n).equal)
unfolding every held_values kept_values values_of
agrees_all v b zero = refl
agrees_all v b (suc n) = ap (λ x. x && agrees_at v b n) (agrees_all v b n) ∙ sym (equal_next v b n) ∙ ap (λ m. (held_values v b m).equal && (kept_values v b m).equal) (add-one n)

-- no frames
pub frames_blank : weight_of 0 / 2 ^ 45 ≡ 0
frames_blank = ap (λ w. w / 2 ^ 45) weight_none
