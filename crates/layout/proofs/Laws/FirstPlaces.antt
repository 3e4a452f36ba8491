-- Where Format puts the copies: "Item b is Shared-CK1 on node 2b mod N and Shared-CK2 on (2b + 1) mod N"; and that they fit into the frames.
use mathlib.Core.Path.{◌≡◌, refl, sym, ap, ◌∙◌}
use mathlib.Core.Logic.{◌≢◌}
use mathlib.Core.Bool.{Bool, true, false, cond}
use Prim.Native.Nat.{ℕ, zero, suc, ◌+◌, ◌-◌, ◌*◌, ◌/◌, ◌%◌, ◌<◌, ◌≤◌}
use native.Mathlib.Omega.{arith}
use native.Mathlib.Nat.{mod-lt, div-add-mod', mul-le-mul_right}
use native.Mathlib.Decide.{dec_lt}
use lib.Dec.{eqb}
use lib.Arith.{digits_mod}
use borrow.Author.Tests.{eqb-true, eq-eqb, ne_eqb}
use Rattle.counting.proofs.Laws.Tests.{by_cases}
use Rattle.table.specs.Words.{shared_ck1, shared_ck2, invalid}
use Rattle.counting.specs.Counting.{sum, count, one}
use Rattle.entries.specs.Frames.{frame_of}
use Rattle.entries.proofs.Laws.Kinds.{clean_code}
use Rattle.layout.specs.Format.{first_place}

-- two numbers in a row are on two nodes
pub next_node_lem : (N x : ℕ) → 2 ≤ N → (x + 1) % N ≢ x % N
next_node_lem N x h e = elim (dec_lt (x % N + 1) N) [
  | yes l ↦ (let q : (x + 1) % N ≡ x % N + 1 = ap (λ k. k % N) split ∙ digits_mod (x / N) l in omega arith)
  | no l ↦ (let s : x + 1 ≡ (x / N + 1) * N + 0 = omega (arith, split, mod-lt x {m = N} (omega arith)) in
      let q : (x + 1) % N ≡ 0 = ap (λ k. k % N) s ∙ digits_mod (x / N + 1) (omega arith) in
      omega (arith, mod-lt x {m = N} (omega arith)))
]
  where
    split : x + 1 ≡ x / N * N + (x % N + 1)
    split = omega (arith, div-add-mod' x N)

module _ (N b : ℕ) (h : 2 ≤ N) where
  pub first_on : first_place N (2 * b % N) b ≡ shared_ck1
  first_on = rw (eq-eqb (2 * b % N) (2 * b % N) refl) refl

  pub second_on : first_place N ((2 * b + 1) % N) b ≡ shared_ck2
  second_on = rw (ne_eqb ((2 * b + 1) % N) (2 * b % N) (next_node_lem N (2 * b) h), eq-eqb ((2 * b + 1) % N) ((2 * b + 1) % N) refl) refl

pub first_only : (N n b : ℕ) → first_place N n b ≡ shared_ck1 → n ≡ 2 * b % N
first_only N n b e = by_cases (eqb n (2 * b % N)) (eqb-true n (2 * b % N))
    (λ p. absurd (by_cases (eqb n ((2 * b + 1) % N)) (λ q. omega (arith, rw (p, q) at e)) (λ q. omega (arith, rw (p, q) at e))))

pub second_only : (N n b : ℕ) → first_place N n b ≡ shared_ck2 → n ≡ (2 * b + 1) % N
second_only N n b e = by_cases (eqb n (2 * b % N)) (λ p. absurd (omega (arith, rw p at e)))
    (λ p. by_cases (eqb n ((2 * b + 1) % N)) (eqb-true n ((2 * b + 1) % N)) (λ q. absurd (omega (arith, rw (p, q) at e))))

pub place_clean : (N n b : ℕ) → first_place N n b ≢ 0 → clean_code (first_place N n b) ≡ true
place_clean N n b d = go (eqb n (2 * b % N)) (eqb n ((2 * b + 1) % N)) d
  where
    go : (x y : Bool) → cond x shared_ck1 (cond y shared_ck2 invalid) ≢ 0 → clean_code (cond x shared_ck1 (cond y shared_ck2 invalid)) ≡ true
    go true y d = refl
    go false true d = refl
    go false false d = absurd (d refl)

pub place_small : (N n b : ℕ) → first_place N n b < 8
place_small N n b = go (eqb n (2 * b % N)) (eqb n ((2 * b + 1) % N))
  where
    go : (x y : Bool) → cond x shared_ck1 (cond y shared_ck2 invalid) < 8
    go true y = omega arith
    go false true = omega arith
    go false false = omega arith

-- ---- the frames of a node

-- of P numbers, at most this many are n modulo N
pub residues : (N n : ℕ) → n < N → (P : ℕ) → count (λ p. eqb n (p % N)) P * N + n + 1 ≤ P + N
unfolding count
residues N n h zero = omega arith
residues N n h (suc P) = by_cases (eqb n (P % N))
    (λ e. rw e (let c = count (λ p. eqb n (p % N)) P in
    let q = P / N in
    let p : P ≡ q * N + n = sym (div-add-mod' P N) ∙ ap (λ r. q * N + r) (sym (eqb-true n (P % N) e)) in
    let ih = residues N n h P in
    let le : c ≤ q = elim (dec_lt q c) [ yes l ↦ absurd (omega (arith, mul-le-mul_right N l)) | no l ↦ omega arith ] in
    omega (arith, mul-le-mul_right N le)))
    (λ e. rw e (omega (arith, residues N n h P)))

abbrev pub holding : ℕ → ℕ → ℕ → ℕ
holding N n b = frame_of (first_place N n b)

held_le : (N n : ℕ) (M : ℕ) → sum (holding N n) M ≤ count (λ p. eqb n (p % N)) (2 * M)
unfolding sum count
held_le N n zero = omega arith
held_le N n (suc M) =
    let e : 2 * suc M ≡ suc (suc (2 * M)) = omega arith in
    rw e (omega (arith, held_le N n M, go (eqb n (2 * M % N)) (eqb n ((2 * M + 1) % N)), ap (λ k. one (eqb n (k % N))) (sucs (2 * M))))
  where
    sucs : (k : ℕ) → suc k ≡ k + 1
    sucs k = omega arith

    go : (x y : Bool) → frame_of (cond x shared_ck1 (cond y shared_ck2 invalid)) ≤ one x + one y
    go true y = omega arith
    go false true = omega arith
    go false false = omega arith

pub held_fits : (N M F n : ℕ) → n < N → 3 ≤ N → 1 ≤ F → 2 * M - 1 ≤ (N - 2) * F → sum (holding N n) M ≤ F
held_fits N M F n h n₃ f₁ room =
    let c = count (λ p. eqb n (p % N)) (2 * M) in
    let r = residues N n h (2 * M) in
    let le = held_le N n M in
    elim (dec_lt F c) [
      | yes l ↦ (let p = mul-le-mul_right N l in
          let q : N * F ≡ (N - 2 + 2) * F = ap (λ k. k * F) (omega arith) in
          absurd (omega (arith, native.Mathlib.Nat.mul_comm N F)))
      | no l ↦ omega arith
    ]
