-- The first number below a bound that passes a test: laws of `first`.
use Rattle.std.proofs.Common.{◌≡◌, ℕ, zero, suc, ◌+◌, ◌<◌, ◌≤◌, Bool, true, false, cond, not, eqb, ltb, sym, refl, ap, ◌∙◌, ap₂, add-one, arith, ltb-false, ltb-true, le-ltb, lt-ltb, eq-eqb, ne_eqb}
use native.Mathlib.Decide.{ℕ_discrete, dec_lt}
use Rattle.counting.proofs.Laws.Tests.{by_cases, bool_iff, no_both}
use Rattle.counting.specs.Counting.{count, first_or, first}
use Rattle.counting.proofs.Laws.Counting.{count_zero, none_counted, Only}

-- ---- a searching loop: before the first turn, one turn more, and found

pub first_starts : (f : ℕ → Bool) → first f 0 ≡ 0
unfolding first
first_starts f = refl

pub first_turns : (f : ℕ → Bool) (n : ℕ) → first f n ≡ n → f n ≡ false → first f (n + 1) ≡ n + 1
unfolding first first_or
first_turns f n e h = rw (add-one, e, h, le-ltb n n (omega arith)) refl

first_here : (f : ℕ → Bool) (n : ℕ) → first f n ≡ n → f n ≡ true → first f (suc n) ≡ n
unfolding first first_or
first_here f n e h = rw (e, h, le-ltb n n (omega arith)) refl

first_stays : (f : ℕ → Bool) (n k : ℕ) → first f n ≡ k → k < n → first f (suc n) ≡ k
unfolding first first_or
first_stays f n k e h = rw (e, lt-ltb k n h) refl

pub first_found : (f : ℕ → Bool) (n m : ℕ) → first f n ≡ n → f n ≡ true → n < m → first f m ≡ n
first_found f n zero e h l = absurd (omega arith)
first_found f n (suc m) e h l =
    elim (ℕ_discrete n m) [ yes q ↦ (let here = first_here f n e h in (rw q at here) ∙ sym q) | no q ↦ first_stays f m n (first_found f n m e h (omega arith)) (omega arith) ]

-- none found
pub first_ends : (f : ℕ → Bool) (n m : ℕ) → first f n ≡ n → n ≤ m → m ≤ n → m ≡ first f m
first_ends f n m e h k = let q : n ≡ m = omega arith in sym (rw q at e)

-- ---- what a search tells

pub first_le : (f : ℕ → Bool) (n : ℕ) → first f n ≤ n
unfolding first first_or
first_le f zero = omega arith
first_le f (suc n) =
    elim (ℕ_discrete (first f n) n) [
      | yes e ↦ by_cases (f n) (λ q. rw (e, q, le-ltb n n (omega arith)) (omega arith)) (λ q. rw (e, q, le-ltb n n (omega arith)) (omega arith))
      | no e ↦ (let l : first f n < n = omega (arith, first_le f n) in rw (lt-ltb (first f n) n l) (omega arith))
    ]

-- none before the one found passes
pub first_least : (f : ℕ → Bool) (n k : ℕ) → k < first f n → f k ≡ false
unfolding first first_or
first_least f zero k l = absurd (omega arith)
first_least f (suc n) k l =
    elim (ℕ_discrete (first f n) n) [
      | yes e ↦
          by_cases (f n)
          (λ q. let here = first_here f n e q in first_least f n k (omega arith))
          (λ q. elim (ℕ_discrete k n) [ yes r ↦ rw r q | no r ↦ (let m = first_le f (suc n) in first_least f n k (omega arith)) ])
      | no e ↦
          (let m = first_le f n in
          let stays = first_stays f n (first f n) refl (omega arith) in
          first_least f n k (omega arith))
    ]

-- the one found passes
pub first_passes : (f : ℕ → Bool) (n : ℕ) → first f n < n → f (first f n) ≡ true
first_passes f zero l = absurd (omega arith)
first_passes f (suc n) l =
    elim (ℕ_discrete (first f n) n) [
      | yes e ↦
          by_cases (f n)
          (λ q. rw (first_here f n e q) q)
          (λ q. let on : first f (suc n) ≡ suc n = rw (← add-one) (first_turns f n e q) in absurd (omega arith))
      | no e ↦
          (let m = first_le f n in
          rw (first_stays f n (first f n) refl (omega arith)) (first_passes f n (omega arith)))
    ]

-- nothing passes
pub first_none : (f : ℕ → Bool) (n : ℕ) → ((k : ℕ) → k < n → f k ≡ false) → first f n ≡ n
first_none f n h =
    elim (ℕ_discrete (first f n) n) [
      | yes e ↦ e
      | no e ↦ (let m = first_le f n in let l : first f n < n = omega arith in absurd (no_both (first_passes f n l) (h (first f n) l)))
    ]

-- one passes, so one is found
pub first_below : (f : ℕ → Bool) (n k : ℕ) → k < n → f k ≡ true → first f n < n
first_below f n k l h =
    elim (dec_lt (first f n) n) [ yes q ↦ q | no q ↦ absurd (no_both h (first_least f n k (omega arith))) ]

-- one alone passes, so it is found
pub first_only : (n : ℕ) (f : ℕ → Bool) (m : ℕ) → Only n f m → first f n ≡ m
first_only n f m o = let l = first_below f n m o.within o.holds in o.alone (first f n) l (first_passes f n l)

pub first_ext : (n : ℕ) (f h : ℕ → Bool) → ((i : ℕ) → i < n → f i ≡ h i) → first f n ≡ first h n
unfolding first
first_ext zero f h e = refl
first_ext (suc n) f h e = ap₂ (λ k q. first_or k n q) (first_ext n f h (λ i l. e i (omega arith))) (e n (omega arith))

-- one is found exactly if the test counts some
pub found_counted : (f : ℕ → Bool) (n : ℕ) → ltb (first f n) n ≡ not (eqb (count f n) 0)
found_counted f n = bool_iff (ltb (first f n) n) (not (eqb (count f n) 0))
    (λ h. let l = ltb-true (first f n) n h in ap not (ne_eqb (count f n) 0 (λ z. no_both (first_passes f n l) (none_counted n f z (first f n) l))))
    (λ h. by_cases (ltb (first f n) n) (λ e. e)
    (λ e. absurd (no_both h (ap not (eq-eqb (count f n) 0 (count_zero n f (λ k l. first_least f n k (omega (arith, ltb-false (first f n) n e)))))))))

-- ---- a search from the last one down

-- the first below n that passes, or else d
unfoldable pub first_else : (ℕ → Bool) → ℕ → ℕ → ℕ
first_else f n d = cond (ltb (first f n) n) (first f n) d

pub else_starts : (f : ℕ → Bool) (n : ℕ) → first f n ≡ first_else f n n
unfolding first_else
else_starts f n = by_cases (ltb (first f n) n) (λ e. rw e refl) (λ e. rw e (omega (arith, ltb-false (first f n) n e, first_le f n)))

pub else_turns : (f : ℕ → Bool) (n d : ℕ) {m r : ℕ} → m ≡ n + 1 → r ≡ cond (f n) n d → first_else f m d ≡ first_else f n r
unfolding first_else first first_or
else_turns f n d e h = rw (e, h, add-one) (by_cases (ltb (first f n) n)
    (λ q. let l = ltb-true (first f n) n q in rw (q, lt-ltb (first f n) (suc n) (omega arith)) refl)
    (λ q. by_cases (f n) (λ p. rw (q, p, lt-ltb n (suc n) (omega arith)) refl) (λ p. rw (q, p, le-ltb (suc n) (suc n) (omega arith)) refl)))

pub else_ends : (f : ℕ → Bool) {n d : ℕ} → n ≤ 0 → first_else f n d ≡ d
unfolding first_else
else_ends f {n} {d} h = rw (le-ltb (first f n) n (omega arith)) refl
