-- The bytes of a line: how many there are, that the kit's digits are these, and bytes put one after the other.
use Rattle.std.proofs.Common.{◌≡◌, ℕ, zero, suc, ◌+◌, ◌-◌, ◌*◌, ◌/◌, ◌%◌, ◌^◌, ◌<◌, ◌≤◌, ltb, List, [], ◌∷◌, ◌++◌, length, take, drop, set, sym, refl, ap, ◌∙◌, append_assoc, pow-suc, add-one, arith, length-append, length-set, take-append-drop, length-take-le, drop-drop, take-suc-set, drop-set-lt, pow-add, ltb-false, ltb-true}
use Rattle.std.proofs.lemmas.Slice.{put_mid-paste}
use borrow.Rule.Slice.PartMut.{put_mid}
use lib.Seq.{take-paste, drop-paste, length-paste, take-length}
use Rattle.io.specs.Counts.{IsPrefixLen}
use Rattle.io.specs.Digits.{last_digits, IsDigitCount}
use Rattle.counting.proofs.Laws.Tests.{by_cases}
use Rattle.table.specs.declared.answers.Numbers.{Numbers}
use Rattle.steps.specs.Lines.{digits_in, decimal_of, field, space, newline, line_bytes, BytesPut}
use Rattle.steps.specs.code.RunCode.{PutAt}

-- ---- how many there are

digits_short : (k n : ℕ) → length (digits_in k n) ≤ k
unfolding digits_in
digits_short zero n = omega arith
digits_short (suc k) n =
    by_cases (ltb n 10) (λ e. rw e (omega arith)) (λ e. rw (e, length-append) (omega (arith, digits_short k (n / 10))))

pub line_short : (number : ℕ) (n : Numbers) → length (line_bytes number n) ≤ 84
unfolding line_bytes
line_short number n =
    simp length-append
    (omega (arith, digits_short 20 number, digits_short 20 n.answer, digits_short 20 n.value, digits_short 20 n.stores))

-- ---- the fewest digits that hold a number are its digits

tens : (r : ℕ) → 1 ≤ 10 ^ r
tens zero = omega arith
tens (suc r) = rw (pow-suc 10 r) (omega (arith, tens r))

-- 64 bits have at most 20 of them
pub few_digits : (n k : ℕ) → n < 2 ^ 64 → IsDigitCount 10 1 n k → k ≤ 20
few_digits n k h f = by_cases (ltb 20 k) (λ e. absurd (many (ltb-true 20 k e))) (λ e. ltb-false 20 k e)
  where
    many : 20 < k → ⊥
    many more =
        let split : k - 1 ≡ 20 + (k - 21) = omega arith in
        let low : 10 ^ 20 * 10 ^ (k - 21) ≤ n = rw (split, pow-add 10 20 (k - 21)) at (f.2 (omega arith)) in
        omega (arith, tens (k - 21))

suc_minus : (r : ℕ) → suc (suc r) - 1 ≡ suc r
suc_minus r = omega arith

one_digit : (r n : ℕ) → IsDigitCount 10 1 n (suc r) → n < 10 → r ≡ 0
one_digit zero n f h = refl
one_digit (suc r) n f h =
    let low : 10 ^ suc r ≤ n = rw (suc_minus r) at (f.2 (omega arith)) in absurd (omega (arith, tens r, rw (pow-suc 10 r) at low))

suc_one : (r : ℕ) → suc r - 1 ≡ r
suc_one r = omega arith

fewer : (r n : ℕ) → IsDigitCount 10 1 n (suc r) → 10 ≤ n → IsDigitCount 10 1 (n / 10) r
fewer zero n f h = absurd (omega (arith, f.1))
fewer (suc r) n f h =
    let high : n < 10 ^ suc r * 10 = rw (pow-suc 10 (suc r)) at f.1 in
    let low : 10 ^ suc r ≤ n = rw (suc_minus r) at (f.2 (omega arith)) in
    (omega arith, omega arith, λ h. rw (suc_one r) (let l : 10 ^ r * 10 ≤ n = rw (pow-suc 10 r) at low in omega arith))

digits_are : (k r n : ℕ) → IsDigitCount 10 1 n r → r ≤ k → last_digits 10 r n ≡ digits_in k n
unfolding digits_in
digits_are k zero n f h = absurd (omega (arith, f.0))
digits_are zero (suc r) n f h = absurd (omega arith)
digits_are (suc k) (suc r) n f h =
    by_cases (ltb n 10)
    (λ e. let z : r ≡ 0 = one_digit r n f (ltb-true n 10 e) in
    let same : n % 10 ≡ n = omega (arith, ltb-true n 10 e) in
    rw (z, same, e) refl)
    (λ e. rw (e, digits_are k r (n / 10) (fewer r n f (ltb-false n 10 e)) (omega arith)) refl)

pub decimal_is : (n r : ℕ) → IsDigitCount 10 1 n r → r ≤ 20 → last_digits 10 r n ≡ decimal_of n
decimal_is n r f h = digits_are 20 r n f h

-- ---- bytes put at a place

pub put_whole :
    (out : List ℕ) (at : ℕ) (bytes : List ℕ) {part : List ℕ} → at + length bytes ≤ length out → part ≡ bytes
    → PutAt out at bytes (put_mid at (at + length bytes - at) out part) (at + length bytes)
put_whole out at bytes {part} fit same =
    rw (put_mid-paste at (at + length bytes - at) out part bytes (length bytes) same (omega arith) refl)
    (record {
      end = refl;
      start = take-paste out at bytes (length bytes) (omega arith) (omega arith) ∙ ap (λ (l : List ℕ). take at out ++ l) (take-length bytes);
      rest = drop-paste out at bytes (length bytes) (omega arith) (omega arith);
      size = length-paste out at bytes (length bytes) fit (omega arith);
    })

pub put_then :
    {out : List ℕ} {at : ℕ} {xs ys out₁ out₂ : List ℕ} {m r : ℕ} → PutAt out at xs out₁ m
    → PutAt out₁ m ys out₂ r → PutAt out at (xs ++ ys) out₂ r
put_then {out} {at} {xs} {ys} {out₁} {out₂} {m} {r} a b = record {
  end = rw length-append (omega (arith, a.end, b.end));
  start = b.start ∙ ap (λ (l : List ℕ). l ++ ys) a.start ∙ append_assoc (take at out) xs ys;
  rest = b.rest ∙ further;
  size = b.size ∙ a.size;
}
  where
    further : drop r out₁ ≡ drop r out
    further = rw (b.end, ← drop-drop (length ys) m out₁, ← drop-drop (length ys) m out) (ap (drop (length ys)) a.rest)

pub put_byte : {out : List ℕ} (at end : ℕ) → at < length out → PutAt out at (end ∷ []) (set out at end) (at + 1)
put_byte {out} at end h = record {
  end = refl;
  start = rw add-one (take-suc-set out at end h);
  rest = drop-set-lt (at + 1) out at end (omega arith);
  size = length-set out at end;
}

-- a number's digits and the byte after them
pub field_put :
    (n end : ℕ) {out : List ℕ} {at : ℕ} (d : List ℕ) {k : ℕ} {out₁ : List ℕ} {m : ℕ} → IsDigitCount 10 1 n k → k ≤ 20
    → take k d ≡ last_digits 10 k n
    → PutAt out at (take k d) out₁ m → m < length out₁ → PutAt out at (field n end) (set out₁ m end) (m + 1)
field_put n end d {k} {m = m} f h e p room = put_then (rw (e ∙ decimal_is n k f h) at p) (put_byte m end room)

-- bytes put at the start
pub put_start : {out bytes out' : List ℕ} {r : ℕ} → PutAt out 0 bytes out' r → BytesPut bytes out out' r
put_start {out} {bytes} {out'} {r} p =
    let n : r ≡ length bytes = omega (arith, p.end) in
    record {
      buffer = sym (take-append-drop r out') ∙ rw (p.start, p.rest, n) refl;
      count = n;
    }

-- they are in the buffer
pub put_counts : {bytes out out' : List ℕ} {r : ℕ} → BytesPut bytes out out' r → IsPrefixLen r out'
put_counts {bytes} {out} {out'} {r} p =
    let h : r ≤ length out' = rw (p.buffer, length-append) (omega (arith, p.count)) in (h, sym (length-take-le r out' h))

pub line_count : (number : ℕ) (n : Numbers) {out out' : List ℕ} {r : ℕ}
    → BytesPut (line_bytes number n) out out' r → r ≤ 84
line_count number n p = omega (arith, p.count, line_short number n)

-- the four fields of a line
pub line_put :
    (number : ℕ) (n : Numbers) {out out₁ out₂ out₃ out₄ : List ℕ} {a b c r : ℕ}
    → PutAt out 0 (field number space) out₁ a
    → PutAt out₁ a (field n.answer space) out₂ b → PutAt out₂ b (field n.value space) out₃ c
    → PutAt out₃ c (field n.stores newline) out₄ r
    → BytesPut (line_bytes number n) out out₄ r
unfolding line_bytes
line_put number n p₁ p₂ p₃ p₄ = put_start (put_then p₁ (put_then p₂ (put_then p₃ p₄)))
