-- Word forms as facts: of a state word, of a mark, of word 0. And back.
use mathlib.Core.Path.{◌≡◌}
use mathlib.Core.Logic.{◌≢◌}
use mathlib.Core.Bool.{true}
use Prim.Native.Nat.{ℕ, ◌/◌, ◌%◌, ◌^◌, ◌<◌}
use native.Mathlib.Omega.{arith}
use lib.Dec.{ltb, eqb}
use borrow.Author.Tests.{eqb-true, eq-eqb, ltb-true, lt-ltb}
use Rattle.counting.proofs.Laws.Tests.{both, and_both, either, or_left, or_right}
use Rattle.table.specs.Words.{shared_ck1, shared_ck2, current_of, kept_of, state_word, state_form, phase_of, number_of, live_of, mark_word, mark_form, size_word, size_form}
use Rattle.table.proofs.Laws.Words.{mark_parts}

-- "Other codes are bad form, as is Shared-CK beside Inv-CK in one entry."
pub record Formed (w : ℕ) : Type 0 where
  pub rest : w % 2 ^ 58 ≡ 0
  pub code : current_of w < 8
  pub kept_code : kept_of w < 3
  pub alone : kept_of w ≢ 0 → (current_of w ≢ shared_ck1) × (current_of w ≢ shared_ck2)

module _ (w : ℕ) where
  pub form_facts : state_form w ≡ true → Formed w
  form_facts h =
      let h₁ = both (eqb (w % 2 ^ 58) 0) h in
      let h₂ = both (ltb (current_of w) 8) h₁.1 in
      let h₃ = both (ltb (kept_of w) 3) h₂.1 in
      record {
        rest = eqb-true _ 0 h₁.0;
        code = ltb-true _ 8 h₂.0;
        kept_code = ltb-true _ 3 h₃.0;
        alone = λ d. either (eqb (kept_of w) 0) h₃.1 (λ z. absurd (d (eqb-true _ 0 z)))
            (λ z. either (ltb (current_of w) 4) z
            (λ l. let k = ltb-true (current_of w) 4 l in ((λ (e : current_of w ≡ 4). omega arith), (λ (e : current_of w ≡ 5). omega arith)))
            (λ l. let k = ltb-true 5 (current_of w) l in ((λ (e : current_of w ≡ 4). omega arith), (λ (e : current_of w ≡ 5). omega arith))));
      }

-- Invalid, Shared, Owner and Modified stand beside any kept place
pub low_form_lem : (c k : ℕ) → c < 4 → k < 3 → state_form (state_word c k) ≡ true
low_form_lem c k hc hk =
    let w = state_word c k in
    and_both (eq-eqb (w % 2 ^ 58) 0 (omega arith))
    (and_both (lt-ltb (current_of w) 8 (omega arith))
    (and_both (lt-ltb (kept_of w) 3 (omega arith))
    (or_right (eqb (kept_of w) 0) (or_left (ltb 5 (current_of w)) (lt-ltb (current_of w) 4 (omega arith))))))

-- any current place stands beside an Invalid kept place
pub alone_form : (c : ℕ) → c < 8 → state_form (state_word c 0) ≡ true
alone_form c hc =
    let w = state_word c 0 in
    and_both (eq-eqb (w % 2 ^ 58) 0 (omega arith))
    (and_both (lt-ltb (current_of w) 8 (omega arith))
    (and_both (lt-ltb (kept_of w) 3 (omega arith)) (or_left _ (eq-eqb (kept_of w) 0 (omega arith)))))

-- "A mark has its live bit set and phase 0, 1 or 2, or is all zero": a live one is the mark of its phase and its number
pub live_mark : (w : ℕ) → mark_form w ≡ true → w ≢ 0 → (w ≡ mark_word (phase_of w) (number_of w)) × (phase_of w < 3)
live_mark w h d = either (eqb w 0) h (λ z. absurd (d (eqb-true w 0 z)))
    (λ k. let k₁ = both (eqb (live_of w) 1) k in
    let k₂ = both (ltb (phase_of w) 3) k₁.1 in
    (mark_parts w (eqb-true (w % 2 ^ 29) 0 k₂.1) (eqb-true (live_of w) 1 k₁.0), ltb-true (phase_of w) 3 k₂.0))

pub mark_form_lem : (p n : ℕ) → p < 3 → n < 2 ^ 32 → mark_form (mark_word p n) ≡ true
mark_form_lem p n hp hn =
    or_right (eqb (mark_word p n) 0)
    (and_both (eq-eqb (live_of (mark_word p n)) 1 (omega arith))
    (and_both (lt-ltb (phase_of (mark_word p n)) 3 (omega arith)) (eq-eqb (mark_word p n % 2 ^ 29) 0 (omega arith))))

-- word 0 of any fields that fit has its form
pub size_form_lem : (n m f : ℕ) → n < 2 ^ 5 → m < 2 ^ 9 → f < 2 ^ 10 → size_form (size_word n m f) ≡ true
size_form_lem n m f hn hm hf = and_both (eq-eqb (size_word n m f / 2 ^ 60) 0 (omega arith)) (eq-eqb (size_word n m f % 2 ^ 36) 0 (omega arith))
