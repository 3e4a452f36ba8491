-- What the tally of an item tells, where all entries of the live nodes are of good form: whether it is clean, dirty or created.
use Prim.Native.Nat.{ℕ, zero, suc, ◌+◌, ◌*◌, ◌/◌, ◌%◌, ◌^◌, ◌<◌}
use mathlib.Core.Path.{◌≡◌, refl, sym, ap, ap₂, ◌∙◌, subst, fun_ext}
use mathlib.Core.Bool.{Bool, true, false, not, ◌&&◌, ◌||◌, and-false, and_assoc, and-or_distrib_right}
use native.Mathlib.Omega.{arith}
use lib.Dec.{eqb}
use borrow.Author.Tests.{eqb-true, eq-eqb, not-true}
use Rattle.counting.proofs.Laws.Tests.{no_both, both, and_both, and_same, by_cases, bool_iff}
use Rattle.counting.specs.Counting.{every, sum, count, one}
use Rattle.counting.proofs.Laws.Counting.{every_at, count_le, count_ext}
use Rattle.counting.proofs.Laws.Values.{values_unseen, count_seen, values_ext, equal_values}
use Rattle.table.specs.View.{View, live, current, kept}
use Rattle.entries.specs.Tally.{Counts, has, has_kept, copy, kept_copy, counts_of, item_test}
use Rattle.entries.proofs.Laws.Row.{quarter}
use Rattle.entries.specs.code.Survey.{codes_form, holds, keeps, holds_at, keeps_at, top_at, live_top, weight_at, held_values, kept_values, kind_test}
use Rattle.entries.proofs.Laws.SurveyFields.{form_codes, keeps_count, tally_fields}

-- ---- tests

-- three tests before another
and_three : (a b c x y : Bool) → (a && (b && (c && (x && y)))) ≡ ((a && (b && (c && x))) && y)
and_three a b c x y = simp and_assoc

-- nothing kept, so what is kept is equal
nothing_kept : (equal nothing same : Bool) → (nothing ≡ true → same ≡ true) → (equal && nothing) ≡ (nothing && (equal && same))
nothing_kept equal true same h = ap (λ q. equal && q) (sym (h refl))
nothing_kept equal false same h = and-false equal

both_kept : (equal one two same : Bool) → (equal && (one && (two && same))) ≡ ((one && two) && (equal && same))
both_kept equal true true same = refl
both_kept equal true false same = and-false equal
both_kept equal false two same = and-false equal

-- ---- an item's counts: kept at two codes, current at 2 to 7, shared, all copies

module _
    (k1 k2 c2 c3 c4 c5 c6 c7 s a : ℕ) (h0 : a < 32) (h1 : k1 < 32) (h2 : k2 < 32) (h3 : c2 < 32) (h4 : c3 < 32) (h5 : c4 < 32) (h6 : c5 < 32) (h7 : c6 < 32)
    (h8 : c7 < 32) (all : a ≡ s + c2 + c3 + c4 + c5 + c6 + c7)
  where
    abbrev upper : ℕ
    upper = k1 + k2 * 2 ^ 5 + c2 * 2 ^ 10 + c3 * 2 ^ 15 + c4 * 2 ^ 20 + c5 * 2 ^ 25 + c6 * 2 ^ 30 + c7 * 2 ^ 35

    abbrev whole : ℕ
    whole = a + k1 * 2 ^ 5 + k2 * 2 ^ 10 + c2 * 2 ^ 15 + c3 * 2 ^ 20 + c4 * 2 ^ 25 + c5 * 2 ^ 30 + c6 * 2 ^ 35 + c7 * 2 ^ 40

    whole_upper : whole / 32 ≡ upper
    whole_upper = omega arith

    whole_low : whole % 32 ≡ a
    whole_low = omega arith

    -- the counts in a number
    record Fields (x : ℕ) : Type 0 where
      f1 : k1 ≡ x % 32
      f2 : k2 ≡ x / 2 ^ 5 % 32
      f3 : c2 ≡ x / 2 ^ 10 % 32
      f4 : c3 ≡ x / 2 ^ 15 % 32
      f5 : c4 ≡ x / 2 ^ 20 % 32
      f6 : c5 ≡ x / 2 ^ 25 % 32
      f7 : c6 ≡ x / 2 ^ 30 % 32
      f8 : c7 ≡ x / 2 ^ 35 % 32

    upper_fields : Fields upper
    upper_fields = record {
      f1 = omega arith;
      f2 = omega arith;
      f3 = omega arith;
      f4 = omega arith;
      f5 = omega arith;
      f6 = omega arith;
      f7 = omega arith;
      f8 = omega arith;
    }

    fields : (x : ℕ) → eqb upper x ≡ true → Fields x
    fields x t = subst Fields (eqb-true upper x t) upper_fields

    clean_upper : (eqb c4 1 && (eqb c5 1 && (eqb a (2 + s) && eqb (k1 + k2) 0))) ≡ eqb upper (2 ^ 20 + 2 ^ 25)
    clean_upper = bool_iff (eqb c4 1 && (eqb c5 1 && (eqb a (2 + s) && eqb (k1 + k2) 0))) (eqb upper (2 ^ 20 + 2 ^ 25))
        (λ t. let x = both (eqb c4 1) t in
        let y = both (eqb c5 1) x.1 in
        let z = both (eqb a (2 + s)) y.1 in
        eq-eqb upper (2 ^ 20 + 2 ^ 25) (omega (arith, eqb-true c4 1 x.0, eqb-true c5 1 y.0, eqb-true a (2 + s) z.0, eqb-true (k1 + k2) 0 z.1)))
        (λ t. let f = fields (2 ^ 20 + 2 ^ 25) t in
        and_both (eq-eqb c4 1 (omega arith)) (and_both (eq-eqb c5 1 (omega arith)) (and_both (eq-eqb a (2 + s) (omega arith)) (eq-eqb (k1 + k2) 0 (omega arith)))))

    modified_whole : ((eqb c3 1 && eqb a 1) && (eqb k1 1 && eqb k2 1)) ≡ eqb whole (1 + 2 ^ 5 + 2 ^ 10 + 2 ^ 20)
    modified_whole = bool_iff ((eqb c3 1 && eqb a 1) && (eqb k1 1 && eqb k2 1)) (eqb whole (1 + 2 ^ 5 + 2 ^ 10 + 2 ^ 20))
        (λ t. let x = both (eqb c3 1 && eqb a 1) t in
        let y = both (eqb c3 1) x.0 in
        let z = both (eqb k1 1) x.1 in
        eq-eqb whole (1 + 2 ^ 5 + 2 ^ 10 + 2 ^ 20) (omega (arith, eqb-true c3 1 y.0, eqb-true a 1 y.1, eqb-true k1 1 z.0, eqb-true k2 1 z.1)))
        (λ t. let e = eqb-true whole (1 + 2 ^ 5 + 2 ^ 10 + 2 ^ 20) t in
        let low : a ≡ 1 = sym whole_low ∙ ap (λ x. x % 32) e in
        let f = fields (1 + 2 ^ 5 + 2 ^ 15) (eq-eqb upper (1 + 2 ^ 5 + 2 ^ 15) (sym whole_upper ∙ ap (λ x. x / 32) e)) in
        and_both (and_both (eq-eqb c3 1 (omega arith)) (eq-eqb a 1 low)) (and_both (eq-eqb k1 1 (omega arith)) (eq-eqb k2 1 (omega arith))))

    owner_upper : ((eqb c2 1 && eqb a (1 + s)) && (eqb k1 1 && eqb k2 1)) ≡ eqb upper (1 + 2 ^ 5 + 2 ^ 10)
    owner_upper = bool_iff ((eqb c2 1 && eqb a (1 + s)) && (eqb k1 1 && eqb k2 1)) (eqb upper (1 + 2 ^ 5 + 2 ^ 10))
        (λ t. let x = both (eqb c2 1 && eqb a (1 + s)) t in
        let y = both (eqb c2 1) x.0 in
        let z = both (eqb k1 1) x.1 in
        eq-eqb upper (1 + 2 ^ 5 + 2 ^ 10) (omega (arith, eqb-true c2 1 y.0, eqb-true a (1 + s) y.1, eqb-true k1 1 z.0, eqb-true k2 1 z.1)))
        (λ t. let f = fields (1 + 2 ^ 5 + 2 ^ 10) t in
        and_both (and_both (eq-eqb c2 1 (omega arith)) (eq-eqb a (1 + s) (omega arith))) (and_both (eq-eqb k1 1 (omega arith)) (eq-eqb k2 1 (omega arith))))

    created_upper : (eqb c6 1 && (eqb c7 1 && (eqb a (2 + s) && (eqb k1 1 && eqb k2 1)))) ≡ eqb upper (1 + 2 ^ 5 + 2 ^ 30 + 2 ^ 35)
    created_upper = bool_iff (eqb c6 1 && (eqb c7 1 && (eqb a (2 + s) && (eqb k1 1 && eqb k2 1)))) (eqb upper (1 + 2 ^ 5 + 2 ^ 30 + 2 ^ 35))
        (λ t. let x = both (eqb c6 1) t in
        let y = both (eqb c7 1) x.1 in
        let z = both (eqb a (2 + s)) y.1 in
        let w = both (eqb k1 1) z.1 in
        eq-eqb upper (1 + 2 ^ 5 + 2 ^ 30 + 2 ^ 35)
        (omega (arith, eqb-true c6 1 x.0, eqb-true c7 1 y.0, eqb-true a (2 + s) z.0, eqb-true k1 1 w.0, eqb-true k2 1 w.1)))
        (λ t. let f = fields (1 + 2 ^ 5 + 2 ^ 30 + 2 ^ 35) t in
        and_both (eq-eqb c6 1 (omega arith))
        (and_both (eq-eqb c7 1 (omega arith))
        (and_both (eq-eqb a (2 + s) (omega arith)) (and_both (eq-eqb k1 1 (omega arith)) (eq-eqb k2 1 (omega arith))))))

    -- with the values: equal, a kept one seen, the kept ones equal
    module _ (equal seen same : Bool) (kept : eqb (k1 + k2) 0 ≡ not seen) (nothing : not seen ≡ true → same ≡ true) where
      clean_told : (eqb c4 1 && (eqb c5 1 && (eqb a (2 + s) && (equal && not seen)))) ≡ (eqb (whole / 32) (2 ^ 20 + 2 ^ 25) && (equal && same))
      clean_told =
          ap (λ q. eqb c4 1 && (eqb c5 1 && (eqb a (2 + s) && q))) (nothing_kept equal (not seen) same nothing ∙ ap (λ q. q && (equal && same)) (sym kept))
          ∙ and_three (eqb c4 1) (eqb c5 1) (eqb a (2 + s)) (eqb (k1 + k2) 0) (equal && same)
          ∙ ap (λ q. q && (equal && same)) (clean_upper ∙ ap (λ x. eqb x (2 ^ 20 + 2 ^ 25)) (sym whole_upper))

      dirty_told :
          (((eqb c3 1 && eqb a 1) || (eqb c2 1 && eqb a (1 + s))) && (equal && (eqb k1 1 && (eqb k2 1 && same))))
          ≡ ((eqb whole (1 + 2 ^ 5 + 2 ^ 10 + 2 ^ 20) || eqb (whole / 32) (1 + 2 ^ 5 + 2 ^ 10)) && (equal && same))
      dirty_told =
          let m = eqb c3 1 && eqb a 1 in
          let o = eqb c2 1 && eqb a (1 + s) in
          let k = eqb k1 1 && eqb k2 1 in
          ap (λ q. (m || o) && q) (both_kept equal (eqb k1 1) (eqb k2 1) same)
          ∙ sym (and_assoc (m || o) k (equal && same))
          ∙ ap (λ q. q && (equal && same))
          (and-or_distrib_right m o k ∙ ap₂ (λ x y. x || y) modified_whole (owner_upper ∙ ap (λ x. eqb x (1 + 2 ^ 5 + 2 ^ 10)) (sym whole_upper)))

      created_told :
          (eqb c6 1 && (eqb c7 1 && (eqb a (2 + s) && (equal && (eqb k1 1 && (eqb k2 1 && same))))))
          ≡ (eqb (whole / 32) (1 + 2 ^ 5 + 2 ^ 30 + 2 ^ 35) && (equal && same))
      created_told =
          ap (λ q. eqb c6 1 && (eqb c7 1 && (eqb a (2 + s) && q))) (both_kept equal (eqb k1 1) (eqb k2 1) same)
          ∙ and_three (eqb c6 1) (eqb c7 1) (eqb a (2 + s)) (eqb k1 1 && eqb k2 1) (equal && same)
          ∙ ap (λ q. q && (equal && same)) (created_upper ∙ ap (λ x. eqb x (1 + 2 ^ 5 + 2 ^ 30 + 2 ^ 35)) (sym whole_upper))

      told :
          (phase : ℕ)
          → ((eqb c4 1 && (eqb c5 1 && (eqb a (2 + s) && (equal && not seen))))
          || ((((eqb c3 1 && eqb a 1) || (eqb c2 1 && eqb a (1 + s))) && (equal && (eqb k1 1 && (eqb k2 1 && same))))
          || (eqb phase 1 && (eqb c6 1 && (eqb c7 1 && (eqb a (2 + s) && (equal && (eqb k1 1 && (eqb k2 1 && same)))))))))
          ≡ (kind_test phase whole && (equal && same))
      told phase =
          let x = eqb (whole / 32) (2 ^ 20 + 2 ^ 25) in
          let y = eqb whole (1 + 2 ^ 5 + 2 ^ 10 + 2 ^ 20) || eqb (whole / 32) (1 + 2 ^ 5 + 2 ^ 10) in
          let z = eqb (whole / 32) (1 + 2 ^ 5 + 2 ^ 30 + 2 ^ 35) in
          let q = equal && same in
          ap₂ (λ c r. c || r) clean_told
          (ap₂ (λ d c. d || (eqb phase 1 && c)) dirty_told created_told
          ∙ ap (λ r. (y && q) || r) (sym (and_assoc (eqb phase 1) z q))
          ∙ sym (and-or_distrib_right y (eqb phase 1 && z) q))
          ∙ sym (and-or_distrib_right x (y || (eqb phase 1 && z)) q)

-- ---- a copy is at one of the codes 1 to 7

abbrev copy_rule : ℕ → Bool
copy_rule c = eqb (one (not (eqb c 0))) (one (eqb c 1) + one (eqb c 2) + one (eqb c 3) + one (eqb c 4) + one (eqb c 5) + one (eqb c 6) + one (eqb c 7))

copy_seven :
    (c : ℕ) → c < 8
    → one (not (eqb c 0)) ≡ one (eqb c 1) + one (eqb c 2) + one (eqb c 3) + one (eqb c 4) + one (eqb c 5) + one (eqb c 6) + one (eqb c 7)
unfolding every
copy_seven c h = eqb-true _ _ (every_at 8 copy_rule refl c h)

holds_seven :
    (top : ℕ)
    → one (holds top)
    ≡ one (holds_at 1 top)
    + one (holds_at 2 top)
    + one (holds_at 3 top)
    + one (holds_at 4 top)
    + one (holds_at 5 top)
    + one (holds_at 6 top)
    + one (holds_at 7 top)
unfolding holds holds_at
holds_seven top = by_cases (codes_form top) (λ e. rw e (copy_seven (top / 4) (form_codes top e).0)) (λ e. rw e refl)

-- ---- the counts of an item by the top bits

module _ (v : View) (b : ℕ) where
  -- how many live nodes below n have a current copy; have the current place, or the kept place, at a code
  abbrev copies : ℕ → ℕ
  copies n = count (live_top holds v b) n

  abbrev currents : ℕ → ℕ → ℕ
  currents n code = count (live_top (holds_at code) v b) n

  abbrev kepts : ℕ → ℕ → ℕ
  kepts n code = count (live_top (keeps_at code) v b) n

  copies_codes : (n : ℕ) → copies n ≡ currents n 1 + currents n 2 + currents n 3 + currents n 4 + currents n 5 + currents n 6 + currents n 7
  unfolding count
  copies_codes zero = refl
  copies_codes (suc n) =
      let at : ℕ → ℕ = λ code. one (live_top (holds_at code) v b n) in
      let e : one (live_top holds v b n) ≡ at 1 + at 2 + at 3 + at 4 + at 5 + at 6 + at 7
      = by_cases (live v n) (λ l. rw l (holds_seven (top_at v b n))) (λ l. rw l refl) in
      omega (arith, copies_codes n, e)

  abbrev top_counts : ℕ → Counts
  top_counts n = record { current = currents n; kept = kepts n; copies = copies n; values = held_values v b n; keeps = kept_values v b n }

  module _ (n : ℕ) (few : n < 32) where
    low : (p : ℕ → Bool) → count p n < 32
    low p = omega (arith, count_le n p)

    tally_low :
        sum (weight_at v b) n % 2 ^ 45
        ≡ copies n
        + kepts n 1 * 2 ^ 5
        + kepts n 2 * 2 ^ 10
        + currents n 2 * 2 ^ 15
        + currents n 3 * 2 ^ 20
        + currents n 4 * 2 ^ 25
        + currents n 5 * 2 ^ 30
        + currents n 6 * 2 ^ 35
        + currents n 7 * 2 ^ 40
    tally_low = omega (
      arith,
      tally_fields v b n,
      count_le n (live_top holds v b),
      count_le n (live_top (keeps_at 1) v b),
      count_le n (live_top (keeps_at 2) v b),
      count_le n (live_top (holds_at 2) v b),
      count_le n (live_top (holds_at 3) v b),
      count_le n (live_top (holds_at 4) v b),
      count_le n (live_top (holds_at 5) v b),
      count_le n (live_top (holds_at 6) v b),
      count_le n (live_top (holds_at 7) v b),
    )

    none_kept : eqb (kepts n 1 + kepts n 2) 0 ≡ not (kept_values v b n).seen
    unfolding kept_values
    none_kept = ap (λ c. eqb c 0) (sym (keeps_count v b n)) ∙ count_seen n (live_top keeps v b) (λ m. (v.entry m b).kept_value)

    none_equal : not (kept_values v b n).seen ≡ true → (kept_values v b n).equal ≡ true
    unfolding kept_values
    none_equal h =
        let p = live_top keeps v b in
        let f : ℕ → ℕ = λ m. (v.entry m b).kept_value in
        (equal_values n p f 0 (λ m l t. absurd (no_both t (values_unseen n p f (not-true _ h) m l)))).0

    top_tells : (phase : ℕ) → item_test phase (top_counts n) ≡ (kind_test phase (sum (weight_at v b) n % 2 ^ 45) && ((held_values v b n).equal && (kept_values v b n).equal))
    unfolding item_test
    top_tells phase =
        told (kepts n 1) (kepts n 2) (currents n 2) (currents n 3) (currents n 4) (currents n 5) (currents n 6) (currents n 7) (currents n 1) (copies n)
        (low _) (low _) (low _) (low _) (low _) (low _) (low _) (low _) (low _) (copies_codes n)
        (held_values v b n).equal (kept_values v b n).seen (kept_values v b n).equal none_kept none_equal phase
        ∙ ap (λ t. kind_test phase t && ((held_values v b n).equal && (kept_values v b n).equal)) (sym tally_low)

-- ---- of good form: the counts are those of the item

form_and : {a x y : Bool} → a ≡ true → x ≡ y → x ≡ (a && y)
form_and p q = rw (p, q) refl

module _ (v : View) (b n : ℕ) (few : n < 32) (formed : (m : ℕ) → m < n → live v m ≡ true → codes_form (top_at v b m) ≡ true) where
  -- a test of a live node's entry, and the same of its top bits
  same_top : (p q : ℕ → Bool) → ((m : ℕ) → codes_form (top_at v b m) ≡ true → p m ≡ q (top_at v b m)) → (m : ℕ) → m < n → (live v m && p m) ≡ live_top q v b m
  same_top p q h m l = and_same (live v m) (p m) (q (top_at v b m)) (λ t. h m (formed m l t))

  pub same_has : (code m : ℕ) → m < n → has v b code m ≡ live_top (holds_at code) v b m
  unfolding holds_at
  same_has code = same_top (λ m. eqb (current (v.entry m b)) code) (holds_at code) (λ m e. form_and e (ap (λ c. eqb c code) (quarter (v.entry m b).state)))

  same_has_kept : (code m : ℕ) → m < n → has_kept v b code m ≡ live_top (keeps_at code) v b m
  unfolding keeps_at
  same_has_kept code = same_top (λ m. eqb (kept (v.entry m b)) code) (keeps_at code) (λ m e. form_and e refl)

  same_copy : (m : ℕ) → m < n → copy v b m ≡ live_top holds v b m
  unfolding holds
  same_copy = same_top (λ m. not (eqb (current (v.entry m b)) 0)) holds (λ m e. form_and e (ap (λ c. not (eqb c 0)) (quarter (v.entry m b).state)))

  same_keep : (m : ℕ) → m < n → kept_copy v b m ≡ live_top keeps v b m
  unfolding keeps
  same_keep = same_top (λ m. not (eqb (kept (v.entry m b)) 0)) keeps (λ m e. form_and e refl)

  counts_top : counts_of v b n ≡ top_counts v b n
  unfolding held_values kept_values
  counts_top =
      let c : ◌≡◌ {A = ℕ → ℕ} (λ code. count (has v b code) n) (λ code. currents v b n code) =
      fun_ext λ code. count_ext n (has v b code) (live_top (holds_at code) v b) (same_has code) in
      let k : ◌≡◌ {A = ℕ → ℕ} (λ code. count (has_kept v b code) n) (λ code. kepts v b n code) =
      fun_ext λ code. count_ext n (has_kept v b code) (live_top (keeps_at code) v b) (same_has_kept code) in
      let a = count_ext n (copy v b) (live_top holds v b) same_copy in
      let x = values_ext n (live_top holds v b) (copy v b) (λ m. (v.entry m b).value) (λ m. (v.entry m b).value) same_copy (λ m l t. refl) in
      let y = values_ext n (live_top keeps v b) (kept_copy v b) (λ m. (v.entry m b).kept_value) (λ m. (v.entry m b).kept_value) same_keep (λ m l t. refl) in
      λ i. record { current = c i; kept = k i; copies = a i; values = x i; keeps = y i }

  pub kind_tells : (phase : ℕ) → item_test phase (counts_of v b n) ≡ (kind_test phase (sum (weight_at v b) n % 2 ^ 45) && ((held_values v b n).equal && (kept_values v b n).equal))
  kind_tells phase = ap (item_test phase) counts_top ∙ top_tells v b n few phase
