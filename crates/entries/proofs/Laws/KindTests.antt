-- From the facts of an item to its test: who gives the facts has shown the item's part of soundness. Also: the kinds exclude each other.
use mathlib.Core.Path.{◌≡◌, refl, sym, ap, ◌∙◌}
use mathlib.Core.Bool.{Bool, true, not, ◌&&◌}
use Prim.Native.Nat.{ℕ, ◌+◌, ◌<◌}
use native.Mathlib.Omega.{arith}
use lib.Dec.{eqb}
use borrow.Author.Tests.{eq-eqb}
use Rattle.table.specs.Words.{shared, owner, modified, shared_ck1, shared_ck2, precommit1, precommit2, inv_ck1, inv_ck2}
use Rattle.counting.proofs.Laws.Tests.{and_both, or_left, or_right}
use Rattle.table.specs.View.{View, current}
use Rattle.counting.specs.Counting.{count}
use Rattle.counting.proofs.Laws.Counting.{Only, only_counts}
use Rattle.counting.proofs.Laws.Values.{equal_values, unseen_values}
use Rattle.entries.specs.Tally.{Counts, has, has_kept, copy, kept_copy, counts_of, is_clean, is_owned, is_saved, is_dirty, is_created, item_test}
use Rattle.entries.proofs.Laws.Kinds.{clean_code, owner_code, created_code, Clean, Saved, Owned, modified_at, owner_at, Dirty, Created, Kind, clean, dirty, created, has_code}
use Rattle.entries.proofs.Laws.Codes.{two_codes, three_codes, all_codes}

module _ (v : View) (N b : ℕ) where
  abbrev s : Counts
  s = counts_of v b N

  -- one node has the code
  single : (p : ℕ → Bool) (m : ℕ) → Only N p m → eqb (count p N) 1 ≡ true
  single p m o = eq-eqb (count p N) 1 (only_counts N p m o)

  values_equal : (x : ℕ) → ((n : ℕ) → n < N → copy v b n ≡ true → (v.entry n b).value ≡ x) → s.values.equal ≡ true
  values_equal x h = (equal_values N (copy v b) (λ n. (v.entry n b).value) x h).0

  pub saved_test : Saved v N b → is_saved s ≡ true
  saved_test k =
      and_both (single (has_kept v b inv_ck1) k.one k.first)
      (and_both (single (has_kept v b inv_ck2) k.two k.second) (equal_values N (kept_copy v b) (λ n. (v.entry n b).kept_value) k.value k.values).0)

  pub clean_test : Clean v N b → is_clean s ≡ true
  clean_test k =
      let e₁ = only_counts N (has v b shared_ck1) k.one k.first in
      let e₂ = only_counts N (has v b shared_ck2) k.two k.second in
      let e₃ = three_codes v N b 4 5 1 (λ z. omega arith) (λ z. omega arith) (λ z. omega arith) in
      and_both (eq-eqb (s.current shared_ck1) 1 e₁)
      (and_both (eq-eqb (s.current shared_ck2) 1 e₂)
      (and_both (eq-eqb s.copies (2 + s.current shared) (omega (arith, all_codes v N b clean_code refl k.others)))
      (and_both (values_equal k.value k.values) (ap not (unseen_values N (kept_copy v b) (λ n. (v.entry n b).kept_value) k.nothing)))))

  pub owned_test : (m : ℕ) → Owned v N b m → is_owned s ≡ true
  owned_test m (modified_at o h) =
      let e = only_counts N (has v b modified) m o in
      let c : count (has v b modified) N ≡ count (copy v b) N = all_codes v N b (λ c. eqb c modified) refl
      (λ n l t. eq-eqb _ _ (ap (λ k. current (v.entry k b)) (h n l t) ∙ has_code v b m modified o.holds)) in
      or_left _ (and_both (eq-eqb (s.current modified) 1 e) (eq-eqb s.copies 1 (sym c ∙ e)))
  owned_test m (owner_at o h) =
      let e = only_counts N (has v b owner) m o in
      let e₂ = two_codes v N b 2 1 (λ z. omega arith) in
      or_right (eqb (s.current modified) 1 && eqb s.copies 1)
      (and_both (eq-eqb (s.current owner) 1 e) (eq-eqb s.copies (1 + s.current shared) (omega (arith, all_codes v N b owner_code refl h))))

  pub dirty_test : Dirty v N b → is_dirty s ≡ true
  dirty_test k = and_both (owned_test k.node k.owned) (and_both (values_equal k.value k.values) (saved_test k.saved))

  pub created_test : Created v N b → is_created s ≡ true
  created_test k =
      let e₁ = only_counts N (has v b precommit1) k.one k.first in
      let e₂ = only_counts N (has v b precommit2) k.two k.second in
      let e₃ = three_codes v N b 6 7 1 (λ z. omega arith) (λ z. omega arith) (λ z. omega arith) in
      and_both (eq-eqb (s.current precommit1) 1 e₁)
      (and_both (eq-eqb (s.current precommit2) 1 e₂)
      (and_both (eq-eqb s.copies (2 + s.current shared) (omega (arith, all_codes v N b created_code refl k.others)))
      (and_both (values_equal k.value k.values) (saved_test k.saved))))

  pub kind_test_lem : (phase : ℕ) → Kind phase v N b → item_test phase s ≡ true
  unfolding item_test
  kind_test_lem phase (clean k) = or_left _ (clean_test k)
  kind_test_lem phase (dirty k) = or_right (is_clean s) (or_left _ (dirty_test k))
  kind_test_lem phase (created e k) = or_right (is_clean s) (or_right (is_dirty s) (and_both (eq-eqb phase 1 e) (created_test k)))
