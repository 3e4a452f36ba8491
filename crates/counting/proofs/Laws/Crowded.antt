-- Room by counting: where copies are fewer than the frames of all nodes but one, another node has a frame free.
use Rattle.std.proofs.Common.{◌≡◌, ℕ, zero, suc, ◌+◌, ◌-◌, ◌*◌, ◌<◌, ◌≤◌, Bool, true, ◌≢◌, sym, arith}
use native.Mathlib.Decide.{ℕ_discrete}
use Rattle.counting.proofs.Laws.Tests.{by_cases}
use Rattle.counting.specs.Counting.{one, sum, count}
use Rattle.counting.proofs.Laws.Counting.{sum_one_more, sum_each, sum_swap, count_some}

-- ---- sums

-- one of many
pub sum_at : (n : ℕ) (f : ℕ → ℕ) (j : ℕ) → j < n → f j ≤ sum f n
unfolding sum
sum_at zero f j l = absurd (omega arith)
sum_at (suc n) f j l = elim (ℕ_discrete j n) [ yes e ↦ rw e (omega arith) | no e ↦ omega (arith, sum_at n f j (omega arith)) ]

-- all but one are 0
pub sum_only : (n : ℕ) (f : ℕ → ℕ) (m : ℕ) → m < n → ((k : ℕ) → k < n → k ≢ m → f k ≡ 0) → sum f n ≡ f m
sum_only n f m l h =
    omega (arith, sum_at n f m l, sum_each 0 n, sum_one_more n f (λ i. 0) m (f m) (λ k q d. omega (arith, h k q d)) (omega arith))

-- at most c each
pub sum_most : (n c : ℕ) (f : ℕ → ℕ) → ((i : ℕ) → i < n → f i ≤ c) → sum f n ≤ n * c
unfolding sum
sum_most zero c f h = omega arith
sum_most (suc n) c f h = omega (arith, sum_most n c f (λ i l. h i (omega arith)), h n (omega arith))

-- and less at one place
pub sum_fewer : (n c : ℕ) (f : ℕ → ℕ) (j : ℕ) → j < n → ((i : ℕ) → i < n → f i ≤ c) → f j < c → sum f n < n * c
unfolding sum
sum_fewer zero c f j l h k = absurd (omega arith)
sum_fewer (suc n) c f j l h k =
    elim (ℕ_discrete j n) [
      | yes e ↦ (let k' : f n < c = rw e at k in omega (arith, sum_most n c f (λ i l. h i (omega arith))))
      | no e ↦ omega (arith, sum_fewer n c f j (omega arith) (λ i l. h i (omega arith)) k, h n (omega arith))
    ]

-- ---- the pigeonhole

-- at least F at each that passes
filled : (n F : ℕ) (p : ℕ → Bool) (c : ℕ → ℕ) → ((i : ℕ) → i < n → p i ≡ true → F ≤ c i) → count p n * F ≤ sum c n
unfolding sum count
filled zero F p c h = omega arith
filled (suc n) F p c h =
    by_cases (p n)
    (λ e. rw e (omega (arith, filled n F p c (λ i l. h i (omega arith)), h n (omega arith) e)))
    (λ e. rw e (omega (arith, filled n F p c (λ i l. h i (omega arith)))))

-- at least F at each that passes but a, where there is one at least
crowded :
    (n F : ℕ) (p : ℕ → Bool) (c : ℕ → ℕ) (a : ℕ) → a < n → p a ≡ true → 1 ≤ c a → ((i : ℕ) → i < n → i ≢ a → p i ≡ true → F ≤ c i)
    → (count p n - 1) * F + 1 ≤ sum c n
unfolding sum count
crowded zero F p c a l t k h = absurd (omega arith)
crowded (suc n) F p c a l t k h =
    elim (ℕ_discrete a n) [
      | yes e ↦
          (let t' : p n ≡ true = rw e at t in
          let k' : 1 ≤ c n = rw e at k in
          let q : (count p n + one (p n)) - 1 ≡ count p n = rw t' (omega arith) in
          rw q (omega (arith, filled n F p c (λ i m. h i (omega arith) (λ (d : i ≡ a). omega arith)))))
      | no e ↦
          (let low = crowded n F p c a (omega arith) t k (λ i m. h i (omega arith)) in
          let some = count_some n p a (omega arith) t in
          by_cases (p n)
          (λ y. let q : (count p n + 1) - 1 ≡ (count p n - 1) + 1 = omega arith in
          rw (y, q) (omega (arith, h n (omega arith) (λ d. e (sym d)) y)))
          (λ y. let q : (count p n + 0) - 1 ≡ count p n - 1 = omega arith in rw (y, q) (omega arith)))
    ]

-- Copies are counted by node n and item i, at most k of each item and fewer of item b, of which node a has one. If the
-- nodes that pass have F frames each and, without a, k × M − 1 together, then not all of these are full.
pub not_all_full :
    (N M F k : ℕ) (p : ℕ → Bool) (copies : ℕ → ℕ → ℕ) (a b : ℕ) → a < N → p a ≡ true → b < M → 1 ≤ copies a b
    → ((i : ℕ) → i < M → sum (λ n. copies n i) N ≤ k) → sum (λ n. copies n b) N < k → k * M - 1 ≤ (count p N - 1) * F
    → ((n : ℕ) → n < N → n ≢ a → p n ≡ true → F ≤ sum (copies n) M) → ⊥
not_all_full N M F k p copies a b la ta lb own most fewer room full =
    omega (
      arith,
      room,
      sum_swap copies N M,
      sum_fewer M k (λ i. sum (λ n. copies n i) N) b lb most fewer,
      crowded N F p (λ n. sum (copies n) M) a la ta (omega (arith, own, sum_at M (copies a) b lb)) full,
    )
