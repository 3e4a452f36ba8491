-- The laws of `specs/Bits.antt` and `specs/code/Bits.antt`.
use Rattle.std.proofs.Common.{◌≡◌, ℕ, zero, suc, ◌+◌, ◌-◌, ◌*◌, ◌/◌, ◌%◌, ◌^◌, ◌<◌, ◌≤◌, min, Bool, true, false, eqb, ltb, sym, refl, ap, ◌∙◌, subst, ap₂, add-zero, pow-suc, div-one, add-one, arith, ltb-false, ltb-true, eq-eqb, ne_eqb}
use native.Mathlib.Nat.{div-div-eq-div-mul, pow-succ', zero-div}
use lib.Bits.{bit_and, and_step, and_self}
use lib.Count.{count_trailing_zeros, under}
use Rattle.counting.proofs.Laws.Tests.{by_cases, no_both}
use Rattle.counting.specs.Counting.{one}
use Rattle.counting.proofs.Laws.Counting.{one_le}
use Rattle.counting.specs.Bits.{bit_at, lowest_bit, clear_lowest}
use Rattle.counting.specs.code.Bits.{mask_of}

-- ---- the bits of a mask, from its lowest

pub bit_none : (k : ℕ) → bit_at 0 k ≡ false
unfolding bit_at
bit_none k = ap (λ (x : ℕ). eqb (x % 2) 1) (zero-div (2 ^ k))

half_bit : (m k : ℕ) → bit_at m (suc k) ≡ bit_at (m / 2) k
unfolding bit_at
half_bit m k = ap (λ (x : ℕ). eqb (x % 2) 1) (ap (λ (x : ℕ). m / x) (pow-succ' 2 k) ∙ sym (div-div-eq-div-mul m 2 (2 ^ k)))

low_bit : (m : ℕ) → bit_at m 0 ≡ eqb (m % 2) 1
unfolding bit_at
low_bit m = ap (λ (x : ℕ). eqb (x % 2) 1) (div-one m)

low_set : (m : ℕ) → m % 2 ≡ 1 → bit_at m 0 ≡ true
low_set m h = low_bit m ∙ eq-eqb (m % 2) 1 h

low_clear : (m : ℕ) → m % 2 ≡ 0 → bit_at m 0 ≡ false
low_clear m h = low_bit m ∙ ne_eqb (m % 2) 1 (λ e. omega arith)

twice_half : (h : ℕ) → h * 2 / 2 ≡ h
twice_half h = omega arith

twice_bit : (h k : ℕ) → bit_at (h * 2) (suc k) ≡ bit_at h k
twice_bit h k = half_bit (h * 2) k ∙ ap (λ (x : ℕ). bit_at x k) (twice_half h)

-- a mask under 2^d has no bit from d on
pub bit_over : (d m k : ℕ) → m < 2 ^ d → d ≤ k → bit_at m k ≡ false
bit_over zero m k l h = let e : m ≡ 0 = omega arith in ap (λ (x : ℕ). bit_at x k) e ∙ bit_none k
bit_over (suc d) m zero l h = absurd (omega arith)
bit_over (suc d) m (suc k) l h = half_bit m k ∙ bit_over d (m / 2) k (omega (arith, pow-suc 2 d)) (omega arith)

-- ---- the lowest bit

clear_even : (m : ℕ) → m % 2 ≡ 0 → (m ≡ 0 → ⊥) → clear_lowest m ≡ clear_lowest (m / 2) * 2
unfolding clear_lowest
clear_even m e p =
    let half : (m - 1) / 2 ≡ m / 2 - 1 = omega arith in
    let odd : (m - 1) % 2 ≡ 1 = omega arith in
    and_step m (m - 1) ∙ ap₂ (λ (x y : ℕ). bit_and (m / 2) x * 2 + min (m % 2) y) half odd ∙ ap (λ (x : ℕ). bit_and (m / 2) (m / 2 - 1) * 2 + min x 1) e
    ∙ add-zero (bit_and (m / 2) (m / 2 - 1) * 2)

clear_odd : (m : ℕ) → m % 2 ≡ 1 → clear_lowest m ≡ m / 2 * 2
unfolding clear_lowest
clear_odd m e =
    let half : (m - 1) / 2 ≡ m / 2 = omega arith in
    let even : (m - 1) % 2 ≡ 0 = omega arith in
    and_step m (m - 1) ∙ ap₂ (λ (x y : ℕ). bit_and (m / 2) x * 2 + min (m % 2) y) half even ∙ ap (λ (x : ℕ). bit_and (m / 2) (m / 2) * 2 + min x 0) e
    ∙ add-zero (bit_and (m / 2) (m / 2) * 2) ∙ ap (λ (x : ℕ). x * 2) (and_self (m / 2))

-- t is the lowest bit of m, and r is m without it
record Low (d m t r : ℕ) : Type 0 where
  few : t < d
  set : bit_at m t ≡ true
  lower : (j : ℕ) → j < t → bit_at m j ≡ false
  above : (j : ℕ) → t < j → bit_at r j ≡ bit_at m j
  gone : (j : ℕ) → j ≤ t → bit_at r j ≡ false
  less : r < m

low_odd : (d m : ℕ) → m % 2 ≡ 1 → Low (suc d) m 0 (m / 2 * 2)
low_odd d m e = record {
  few = omega arith;
  set = low_set m e;
  lower = λ j l. absurd (omega arith);
  above = above;
  gone = gone;
  less = omega arith;
}
  where
    above : (j : ℕ) → 0 < j → bit_at (m / 2 * 2) j ≡ bit_at m j
    above zero l = absurd (omega arith)
    above (suc j) l = twice_bit (m / 2) j ∙ sym (half_bit m j)

    gone : (j : ℕ) → j ≤ 0 → bit_at (m / 2 * 2) j ≡ false
    gone zero l = low_clear (m / 2 * 2) (omega arith)
    gone (suc j) l = absurd (omega arith)

low_even : (d m t r : ℕ) → m % 2 ≡ 0 → Low d (m / 2) t r → Low (suc d) m (suc t) (r * 2)
low_even d m t r e p = record {
  few = omega (arith, p.few);
  set = half_bit m t ∙ p.set;
  lower = lower;
  above = above;
  gone = gone;
  less = omega (arith, p.less);
}
  where
    lower : (j : ℕ) → j < suc t → bit_at m j ≡ false
    lower zero l = low_clear m e
    lower (suc j) l = half_bit m j ∙ p.lower j (omega arith)

    above : (j : ℕ) → suc t < j → bit_at (r * 2) j ≡ bit_at m j
    above zero l = absurd (omega arith)
    above (suc j) l = twice_bit r j ∙ p.above j (omega arith) ∙ sym (half_bit m j)

    gone : (j : ℕ) → j ≤ suc t → bit_at (r * 2) j ≡ false
    gone zero l = low_clear (r * 2) (omega arith)
    gone (suc j) l = twice_bit r j ∙ p.gone j (omega arith)

low_told : (d m : ℕ) → (m ≡ 0 → ⊥) → m < 2 ^ d → Low d m (count_trailing_zeros d m) (clear_lowest m)
unfolding count_trailing_zeros
low_told zero m p l = absurd (p (omega arith))
low_told (suc d) m p l = go (m % 2) refl (λ (e : m % 2 ≡ 0). low_told d (m / 2) (λ z. p (omega arith)) (omega (arith, pow-suc 2 d)))
  where
    go : (r : ℕ) → m % 2 ≡ r → (m % 2 ≡ 0 → Low d (m / 2) (count_trailing_zeros d (m / 2)) (clear_lowest (m / 2)))
        → Low (suc d) m (under r (count_trailing_zeros d (m / 2))) (clear_lowest m)
    go zero e half = subst (Low (suc d) m (suc (count_trailing_zeros d (m / 2)))) (sym (clear_even m e p)) (low_even d m _ _ e (half e))
    go (suc r) e half =
        let o : m % 2 ≡ 1 = omega arith in
        subst (Low (suc d) m 0) (sym (clear_odd m o)) (low_odd d m o)

-- ---- a loop over the bits that are set, ascending

-- what is left of a mask once its bits below k are done
pub record Left (m left k : ℕ) : Type 0 where
  pub done : (j : ℕ) → j < k → bit_at left j ≡ false
  pub same : (j : ℕ) → k ≤ j → bit_at left j ≡ bit_at m j

pub left_all : (m : ℕ) → Left m m 0
left_all m = record { done = λ j l. absurd (omega arith); same = λ j l. refl }

-- none is left: no bit from k on is set
pub left_none : {m left k : ℕ} → Left m left k → left ≡ 0 → (j : ℕ) → k ≤ j → bit_at m j ≡ false
left_none p e j l = sym (p.same j l) ∙ ap (λ (x : ℕ). bit_at x j) e ∙ bit_none j

-- the next bit t: those between are not set, and what is left after it
pub record Next (m left k t rest : ℕ) : Type 0 where
  pub few : t < 64
  pub from : k ≤ t
  pub set : bit_at m t ≡ true
  pub between : (j : ℕ) → k ≤ j → j < t → bit_at m j ≡ false
  pub goes : Left m rest (t + 1)
  pub less : rest < left

pub left_next :
    {m left k t rest : ℕ} → Left m left k → (left ≡ 0 → ⊥) → left < 2 ^ 64 → t ≡ lowest_bit left → rest ≡ clear_lowest left → Next m left k t rest
unfolding lowest_bit
left_next {m} {left} {k} {t} {rest} p z l e r = record {
  few = omega (arith, f.few);
  from = from;
  set = sym (p.same t from) ∙ set;
  between = λ j h q. sym (p.same j h) ∙ f.lower j (omega arith);
  goes = record {
    done = λ j h. ap (λ (x : ℕ). bit_at x j) r ∙ f.gone j (omega arith);
    same = λ j h. ap (λ (x : ℕ). bit_at x j) r ∙ f.above j (omega arith) ∙ p.same j (omega (arith, from));
  };
  less = omega (arith, f.less);
}
  where
    f : Low 64 left (count_trailing_zeros 64 left) (clear_lowest left)
    f = low_told 64 left z l

    set : bit_at left t ≡ true
    set = ap (bit_at left) e ∙ f.set

    from : k ≤ t
    from = by_cases (ltb t k) (λ q. absurd (no_both set (p.done t (ltb-true t k q)))) (λ q. ltb-false t k q)

-- ---- the mask of a test

pub mask_none : (p : ℕ → Bool) (b : ℕ) → 0 ≡ mask_of p b 0
unfolding mask_of
mask_none p b = refl

half_with : (q : Bool) (m : ℕ) → (one q + 2 * m) / 2 ≡ m
half_with q m = omega (arith, one_le q)

low_with : (q : Bool) (m : ℕ) → bit_at (one q + 2 * m) 0 ≡ q
low_with true m = low_set (1 + 2 * m) (omega arith)
low_with false m = low_clear (0 + 2 * m) (omega arith)

pub mask_bit : (p : ℕ → Bool) (b n k : ℕ) → k < n → bit_at (mask_of p b n) k ≡ p (b + k)
unfolding mask_of
mask_bit p b zero k l = absurd (omega arith)
mask_bit p b (suc n) zero l = low_with (p b) (mask_of p (suc b) n) ∙ ap p (sym (add-zero b))
mask_bit p b (suc n) (suc k) l =
    half_bit _ k ∙ ap (λ (x : ℕ). bit_at x k) (half_with (p b) (mask_of p (suc b) n)) ∙ mask_bit p (suc b) n k (omega arith)
    ∙ ap p (let e : suc b + k ≡ b + suc k = omega arith in e)

pub mask_over : (p : ℕ → Bool) (b n k : ℕ) → n ≤ k → bit_at (mask_of p b n) k ≡ false
unfolding mask_of
mask_over p b zero k l = bit_none k
mask_over p b (suc n) zero l = absurd (omega arith)
mask_over p b (suc n) (suc k) l =
    half_bit _ k ∙ ap (λ (x : ℕ). bit_at x k) (half_with (p b) (mask_of p (suc b) n)) ∙ mask_over p (suc b) n k (omega arith)

pub mask_small : (p : ℕ → Bool) (b n : ℕ) → mask_of p b n < 2 ^ n
unfolding mask_of
mask_small p b zero = omega arith
mask_small p b (suc n) = omega (arith, mask_small p (suc b) n, one_le (p b), pow-suc 2 n)

pub mask_ext : (p q : ℕ → Bool) (b n : ℕ) → ((k : ℕ) → k < n → p (b + k) ≡ q (b + k)) → mask_of p b n ≡ mask_of q b n
unfolding mask_of
mask_ext p q b zero h = refl
mask_ext p q b (suc n) h =
    let here : p b ≡ q b = ap p (sym (add-zero b)) ∙ h 0 (omega arith) ∙ ap q (add-zero b) in
    let above = mask_ext p q (suc b) n (λ k l. let e : suc b + k ≡ b + suc k = omega arith in ap p e ∙ h (suc k) (omega arith) ∙ ap q (sym e)) in
    ap₂ (λ x y. one x + 2 * y) here above

-- one number more, below the others
pub mask_turn : (p : ℕ → Bool) (b n : ℕ) {m c k : ℕ} → m ≡ mask_of p c n → c ≡ b + 1 → k ≡ n + 1 → one (p b) + 2 * m ≡ mask_of p b k
unfolding mask_of
mask_turn p b n h e f = rw (h, e, f) (ap (λ (x : ℕ). one (p b) + 2 * mask_of p x n) (add-one b) ∙ sym (ap (mask_of p b) (add-one n)))
