-- Words that should be equal, compared without a test for each: the bits in which two differ, gathered over many.
use Rattle.std.proofs.Common.{◌≡◌, ℕ, ◌&&◌, eqb, arith, eq-eqb, eqb-true}
use lib.Bits.{bit_or, bit_xor, and_le_l, and_le_r, or_add_and, xor_add_and, or_self, xor_self}
use Rattle.counting.proofs.Laws.Tests.{bool_iff, both, and_both}

-- no bits are gathered if none were before and none come
pub none_gathered : (a b : ℕ) → eqb (bit_or a b) 0 ≡ (eqb a 0 && eqb b 0)
none_gathered a b =
    bool_iff (eqb (bit_or a b) 0) (eqb a 0 && eqb b 0)
    (λ h. let z = eqb-true (bit_or a b) 0 h in
    let e = or_add_and a b in
    and_both (eq-eqb a 0 (omega (arith, e, and_le_r a b, z))) (eq-eqb b 0 (omega (arith, e, and_le_l a b, z))))
    (λ h. let p = both (eqb a 0) h in
    eq-eqb (bit_or a b) 0 (rw (eqb-true a 0 p.0, eqb-true b 0 p.1) (or_self 0)))

-- two words differ in no bit if they are equal
pub none_differ : (a b : ℕ) → eqb (bit_xor a b) 0 ≡ eqb a b
none_differ a b =
    bool_iff (eqb (bit_xor a b) 0) (eqb a b)
    (λ h. eq-eqb a b (omega (arith, xor_add_and a b, and_le_l a b, and_le_r a b, eqb-true (bit_xor a b) 0 h)))
    (λ h. eq-eqb (bit_xor a b) 0 (rw (eqb-true a b h) (xor_self b)))
