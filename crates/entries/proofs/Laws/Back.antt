-- The recovery copies of an item on the back side: a current Shared-CKi, or else a kept Inv-CKi. A sound item has exactly two, on two live nodes, of equal value.
use mathlib.Core.Path.{◌≡◌, refl, sym, ap, ◌∙◌}
use mathlib.Core.Logic.{◌≢◌, ◌⊎◌, inl, inr}
use mathlib.Core.Bool.{Bool, true, false, cond, ◌&&◌, ◌||◌}
use Prim.Native.Nat.{ℕ, ◌<◌, ◌≤◌}
use native.Mathlib.Omega.{arith}
use native.Mathlib.Decide.{ℕ_discrete}
use lib.Dec.{eqb}
use borrow.Author.Tests.{eqb-true, eq-eqb, ne_eqb}
use Rattle.table.specs.Words.{shared_ck1, shared_ck2, inv_ck1, inv_ck2, modified}
use Rattle.counting.proofs.Laws.Tests.{no_both, both, and_both, and_same}
use Rattle.table.specs.View.{View, live, current, kept}
use Rattle.counting.proofs.Laws.Counting.{Only, only_same}
use Rattle.entries.specs.Tally.{has, has_kept, copy}
use Rattle.table.specs.Copies.{copy_number, copy_value, back_copy}
use Rattle.table.proofs.Laws.Copies.{back_number_lem, back_value_lem}
use Rattle.entries.proofs.Laws.Kinds.{owner_code, created_code, Clean, Saved, Owned, modified_at, owner_at, Kind, clean, dirty, created, copy_at, has_code, no_keep, keep_at}

-- the number of node n's recovery copy of item b, 0 for none; and its value
abbrev pub back_number : View → ℕ → ℕ → ℕ
back_number v b n = copy_number (back_copy (v.entry n b))

abbrev pub back_value : View → ℕ → ℕ → ℕ
back_value v b n = copy_value (back_copy (v.entry n b))

abbrev pub has_back : View → ℕ → ℕ → ℕ → Bool
has_back v b number n = live v n && eqb (back_number v b n) number

-- the two copies of an item
pub record Pair (v : View) (N b : ℕ) : Type 0 where
  pub one : ℕ
  pub two : ℕ
  pub value : ℕ
  pub first : Only N (has_back v b 1) one
  pub second : Only N (has_back v b 2) two
  pub values : (n : ℕ) → n < N → live v n ≡ true → back_number v b n ≢ 0 → back_value v b n ≡ value

-- on two nodes
pub pair_apart : (v : View) (N b : ℕ) (p : Pair v N b) → p.one ≢ p.two
pair_apart v N b p e =
    let a : back_number v b p.one ≡ 1 = eqb-true _ 1 (both (live v p.one) p.first.holds).1 in
    let c : back_number v b p.two ≡ 2 = eqb-true _ 2 (both (live v p.two) p.second.holds).1 in
    omega (arith, a, c, ap (back_number v b) e)

-- and on no other, where kept places have their form
pub pair_only :
    (v : View) (N b : ℕ) (p : Pair v N b) (n : ℕ) → n < N → live v n ≡ true → kept (v.entry n b) < 3 → back_number v b n ≢ 0
    → (n ≡ p.one) ⊎ (n ≡ p.two)
pair_only v N b p n l h k d = elim (ℕ_discrete (back_number v b n) 1) [
  | yes e ↦ inl (p.first.alone n l (and_both h (eq-eqb (back_number v b n) 1 e)))
  | no e ↦ inr (p.second.alone n l (and_both h (eq-eqb (back_number v b n) 2 (omega (arith, back_number_lem (v.entry n b), small (eqb (current (v.entry n b)) shared_ck1) (eqb (current (v.entry n b)) shared_ck2))))))
]
  where
    small : (x y : Bool) → cond x 1 (cond y 2 (kept (v.entry n b))) ≤ 2
    small true true = omega arith
    small true false = omega arith
    small false true = omega arith
    small false false = omega arith

-- ---- clean: the Shared-CK copies

module _ (v : View) (N b : ℕ) (k : Clean v N b) where
  pub clean_pair : Pair v N b
  clean_pair = record {
    one = k.one;
    two = k.two;
    value = k.value;
    first = only_same N (has v b shared_ck1) (has_back v b 1) k.one
        (λ n l. and_same (live v n) _ _ (λ h. one· (eqb (current (v.entry n b)) shared_ck1) (eqb (current (v.entry n b)) shared_ck2) (kept (v.entry n b)) (kept0 n l h) ∙ ap (λ k. eqb k 1) (sym (back_number_lem (v.entry n b))))) k.first;
    second = only_same N (has v b shared_ck2) (has_back v b 2) k.two
        (λ n l. and_same (live v n) _ _ (λ h. two· n (eqb (current (v.entry n b)) shared_ck1) refl (eqb (current (v.entry n b)) shared_ck2) refl (kept (v.entry n b)) (kept0 n l h) ∙ ap (λ k. eqb k 2) (sym (back_number_lem (v.entry n b))))) k.second;
    values = λ n l h d. back_value_lem (v.entry n b) d ∙ valued n l h (eqb (current (v.entry n b)) shared_ck1) refl (eqb (current (v.entry n b)) shared_ck2) refl (λ z. d (back_number_lem (v.entry n b) ∙ z));
  }
    where
      kept0 : (n : ℕ) → n < N → live v n ≡ true → kept (v.entry n b) ≡ 0
      kept0 n l h = no_keep v b n h (k.nothing n l)

      one· : (x y : Bool) (q : ℕ) → q ≡ 0 → x ≡ eqb (cond x 1 (cond y 2 q)) 1
      one· true y q e = refl
      one· false true q e = refl
      one· false false q e = rw e refl

      two· : (n : ℕ) (x : Bool) → eqb (current (v.entry n b)) shared_ck1 ≡ x → (y : Bool) → eqb (current (v.entry n b)) shared_ck2 ≡ y → (q : ℕ) → q ≡ 0 → y ≡ eqb (cond x 1 (cond y 2 q)) 2
      two· n true p true r q e = absurd (omega (arith, eqb-true (current (v.entry n b)) shared_ck1 p, eqb-true (current (v.entry n b)) shared_ck2 r))
      two· n true p false r q e = refl
      two· n false p true r q e = refl
      two· n false p false r q e = rw e refl

      valued : (n : ℕ) → n < N → live v n ≡ true → (x : Bool) → eqb (current (v.entry n b)) shared_ck1 ≡ x → (y : Bool) → eqb (current (v.entry n b)) shared_ck2 ≡ y
          → cond x 1 (cond y 2 (kept (v.entry n b))) ≢ 0 → cond (x || y) (v.entry n b).value (v.entry n b).kept_value ≡ k.value
      valued n l h true p y r d = k.values n l (copy_at v b n h (λ z. omega (arith, eqb-true (current (v.entry n b)) shared_ck1 p)))
      valued n l h false p true r d = k.values n l (copy_at v b n h (λ z. omega (arith, eqb-true (current (v.entry n b)) shared_ck2 r)))
      valued n l h false p false r d = absurd (d (kept0 n l h))

-- ---- dirty and created: the Inv-CK copies, since no current copy is a Shared-CK

-- the current copy of a live node is no Shared-CK
pub NoCK : View → ℕ → ℕ → Type 0
NoCK v N b = (n : ℕ) → n < N → live v n ≡ true → (current (v.entry n b) ≢ shared_ck1) × (current (v.entry n b) ≢ shared_ck2)

module _ (v : View) (N b : ℕ) where
  not_ck : (codes : ℕ → Bool) → codes shared_ck1 ≡ false → codes shared_ck2 ≡ false → ((n : ℕ) → n < N → copy v b n ≡ true → codes (current (v.entry n b)) ≡ true) → NoCK v N b
  unfolding NoCK
  not_ck codes f g h n l t = (
    (λ z. no_both (h n l (copy_at v b n t (λ w. omega arith))) (ap codes z ∙ f)),
    (λ z. no_both (h n l (copy_at v b n t (λ w. omega arith))) (ap codes z ∙ g)),
  )

  owned_no_ck : (m : ℕ) → Owned v N b m → NoCK v N b
  owned_no_ck m (modified_at o h) = not_ck (λ c. eqb c modified) refl refl
      (λ n l t. eq-eqb (current (v.entry n b)) modified (ap (λ k. current (v.entry k b)) (h n l t) ∙ has_code v b m modified o.holds))
  owned_no_ck m (owner_at o h) = not_ck owner_code refl refl h

  pub saved_pair : NoCK v N b → Saved v N b → Pair v N b
  unfolding NoCK
  saved_pair c s = record {
    one = s.one;
    two = s.two;
    value = s.value;
    first = only_same N (has_kept v b inv_ck1) (has_back v b 1) s.one (λ n l. and_same (live v n) _ _ (λ h. ap (λ k. eqb k 1) (sym (inv n l h)))) s.first;
    second = only_same N (has_kept v b inv_ck2) (has_back v b 2) s.two (λ n l. and_same (live v n) _ _ (λ h. ap (λ k. eqb k 2) (sym (inv n l h)))) s.second;
    values = λ n l h d. back_value_lem (v.entry n b) d
        ∙ rw (ne_eqb (current (v.entry n b)) shared_ck1 (c n l h).0, ne_eqb (current (v.entry n b)) shared_ck2 (c n l h).1) (s.values n l (keep_at v b n h (λ z. d (inv n l h ∙ z))));
  }
    where
      inv : (n : ℕ) → n < N → live v n ≡ true → back_number v b n ≡ kept (v.entry n b)
      inv n l h = back_number_lem (v.entry n b) ∙ rw (ne_eqb (current (v.entry n b)) shared_ck1 (c n l h).0, ne_eqb (current (v.entry n b)) shared_ck2 (c n l h).1) refl

  -- every kind of item has its two copies
  pub kind_pair : (phase : ℕ) → Kind phase v N b → Pair v N b
  kind_pair phase (clean k) = clean_pair v N b k
  kind_pair phase (dirty k) = saved_pair (owned_no_ck k.node k.owned) k.saved
  kind_pair phase (created e k) = saved_pair (not_ck created_code refl refl k.others) k.saved
