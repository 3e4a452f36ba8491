-- What a test that holds says, and how to show that one holds.
use Rattle.std.proofs.Common.{◌≡◌, ℕ, ◌+◌, Bool, true, false, not, ◌&&◌, ◌||◌, eqb, ◌≢◌, sym, refl, ◌∙◌, arith, eq-eqb, ne_eqb, eqb-true}

pub no_both : {b : Bool} → b ≡ true → b ≡ false → ⊥
no_both p q = let z : ◌≡◌ {A = ℕ} 0 1 = cc in omega arith

-- both halves of a test that holds
pub both : (a : Bool) {b : Bool} → (a && b) ≡ true → (a ≡ true) × (b ≡ true)
both true h = (refl, h)
both false h = absurd (no_both h refl)

pub and_both : {a b : Bool} → a ≡ true → b ≡ true → (a && b) ≡ true
and_both p q = rw (p, q) refl

-- tests that agree where a first one holds
pub and_same : (a x y : Bool) → (a ≡ true → x ≡ y) → (a && x) ≡ (a && y)
and_same true x y f = f refl
and_same false x y f = refl

-- the firsts of two pairs and the seconds
pub and_mixed : (a b c d : Bool) → ((a && b) && (c && d)) ≡ ((a && c) && (b && d))
and_mixed true true c d = refl
and_mixed true false true d = refl
and_mixed true false false d = refl
and_mixed false b c d = refl

-- the second fails
pub and_no : (a : Bool) {b : Bool} → b ≡ false → (a && b) ≡ false
and_no true h = h
and_no false h = refl

pub and_no_right : (a : Bool) {b : Bool} → a ≡ true → (a && b) ≡ false → b ≡ false
and_no_right true e h = h
and_no_right false e h = absurd (no_both e refl)

-- a test by cases
pub by_cases : (a : Bool) {P : Type 0} → (a ≡ true → P) → (a ≡ false → P) → P
by_cases true yes· no· = yes· refl
by_cases false yes· no· = no· refl

pub bool_iff : (a b : Bool) → (a ≡ true → b ≡ true) → (b ≡ true → a ≡ true) → a ≡ b
bool_iff true b f g = sym (f refl)
bool_iff false true f g = g refl
bool_iff false false f g = refl

-- "not a or b" is "a implies b"
pub given : (a : Bool) {b : Bool} → (not a || b) ≡ true → a ≡ true → b ≡ true
given true h e = h
given false h e = absurd (no_both e refl)

pub implies : (a : Bool) {b : Bool} → (a ≡ true → b ≡ true) → (not a || b) ≡ true
implies true f = f refl
implies false f = refl

pub either : (a : Bool) {b : Bool} {P : Type 0} → (a || b) ≡ true → (a ≡ true → P) → (b ≡ true → P) → P
either true h f g = f refl
either false h f g = g h

pub or_left : {a : Bool} (b : Bool) → a ≡ true → (a || b) ≡ true
or_left b h = rw h refl

pub or_right : (a : Bool) {b : Bool} → b ≡ true → (a || b) ≡ true
or_right true h = refl
or_right false h = h

-- one side of an `||` fails, so the other holds
pub other_holds : (a : Bool) {b : Bool} → (a || b) ≡ true → a ≡ false → b ≡ true
other_holds true h e = absurd (no_both h e)
other_holds false h e = h

-- neither side of an `||` holds
pub neither : (a b : Bool) → (a || b) ≡ false → (a ≡ false) × (b ≡ false)
neither true b h = absurd (no_both refl h)
neither false b h = (refl, h)

-- ---- tests of numbers

pub eqb_swap : (x y : ℕ) → eqb x y ≡ eqb y x
eqb_swap x y = bool_iff (eqb x y) (eqb y x) (λ h. eq-eqb y x (sym (eqb-true x y h))) (λ h. eq-eqb x y (sym (eqb-true y x h)))

-- no number is two
pub eqb_apart : (c i j : ℕ) → i ≢ j → (eqb c i && eqb c j) ≡ false
eqb_apart c i j d = by_cases (eqb c i) (λ e. and_no (eqb c i) (ne_eqb c j (λ f. d (sym (eqb-true c i e) ∙ f)))) (λ e. rw e refl)

-- a sum is 0 if both are
pub none_added : (a b : ℕ) → eqb (a + b) 0 ≡ (eqb a 0 && eqb b 0)
none_added a b =
    bool_iff (eqb (a + b) 0) (eqb a 0 && eqb b 0)
    (λ h. let z = eqb-true (a + b) 0 h in and_both (eq-eqb a 0 (omega arith)) (eq-eqb b 0 (omega arith)))
    (λ h. let p = both (eqb a 0) h in eq-eqb (a + b) 0 (omega (arith, eqb-true a 0 p.0, eqb-true b 0 p.1)))
