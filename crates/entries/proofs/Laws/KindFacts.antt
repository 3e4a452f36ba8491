-- From the test of an item to its facts: the item is clean, dirty or created.
use mathlib.Core.Path.{◌≡◌, refl, sym, ◌∙◌}
use mathlib.Core.Bool.{true, ◌&&◌}
use Prim.Native.Nat.{ℕ, ◌+◌, ◌<◌}
use native.Mathlib.Omega.{arith}
use lib.Dec.{eqb}
use borrow.Author.Tests.{eqb-true, not-true}
use Rattle.table.specs.Words.{shared, owner, modified, shared_ck1, shared_ck2, precommit1, precommit2, inv_ck1, inv_ck2}
use Rattle.counting.proofs.Laws.Tests.{both, and_both, either}
use Rattle.table.specs.View.{View}
use Rattle.counting.specs.Counting.{count}
use Rattle.counting.proofs.Laws.Counting.{only}
use Rattle.counting.proofs.Laws.Values.{values_equal, values_unseen}
use Rattle.entries.specs.Tally.{Counts, has, has_kept, copy, kept_copy, counts_of, is_clean, is_owned, is_saved, is_dirty, is_created, item_test}
use Rattle.entries.proofs.Laws.Kinds.{clean_code, owner_code, created_code, Clean, Saved, Owned, modified_at, owner_at, Dirty, Created, Kind, clean, dirty, created, copy_live}
use Rattle.entries.proofs.Laws.Codes.{two_codes, three_codes, codes_all}

module _ (v : View) (N b : ℕ) where
  abbrev s : Counts
  s = counts_of v b N

  current_values : s.values.equal ≡ true → (n : ℕ) → n < N → copy v b n ≡ true → (v.entry n b).value ≡ s.values.first
  current_values = values_equal N (copy v b) (λ n. (v.entry n b).value)

  pub saved_facts : is_saved s ≡ true → Saved v N b
  saved_facts h =
      let h₁ = both (eqb (s.kept inv_ck1) 1) h in
      let h₂ = both (eqb (s.kept inv_ck2) 1) h₁.1 in
      let o₁ = only N (has_kept v b inv_ck1) (eqb-true _ 1 h₁.0) in
      let o₂ = only N (has_kept v b inv_ck2) (eqb-true _ 1 h₂.0) in
      record {
        one = o₁.0;
        two = o₂.0;
        value = s.keeps.first;
        first = o₁.1;
        second = o₂.1;
        values = values_equal N (kept_copy v b) (λ n. (v.entry n b).kept_value) h₂.1;
      }

  pub clean_facts : is_clean s ≡ true → Clean v N b
  clean_facts h =
      let h₁ = both (eqb (s.current shared_ck1) 1) h in
      let h₂ = both (eqb (s.current shared_ck2) 1) h₁.1 in
      let h₃ = both (eqb s.copies (2 + s.current shared)) h₂.1 in
      let h₄ = both s.values.equal h₃.1 in
      let e₁ : count (has v b shared_ck1) N ≡ 1 = eqb-true _ 1 h₁.0 in
      let e₂ : count (has v b shared_ck2) N ≡ 1 = eqb-true _ 1 h₂.0 in
      let e₃ : count (copy v b) N ≡ 2 + count (has v b shared) N = eqb-true _ _ h₃.0 in
      let o₁ = only N (has v b shared_ck1) e₁ in
      let o₂ = only N (has v b shared_ck2) e₂ in
      record {
        one = o₁.0;
        two = o₂.0;
        value = s.values.first;
        first = o₁.1;
        second = o₂.1;
        others = codes_all v N b clean_code refl (omega (arith, three_codes v N b 4 5 1 (λ z. omega arith) (λ z. omega arith) (λ z. omega arith)));
        values = current_values h₄.0;
        nothing = values_unseen N (kept_copy v b) (λ n. (v.entry n b).kept_value) (not-true s.keeps.seen h₄.1);
      }

  pub owned_facts : is_owned s ≡ true → (m : ℕ) × Owned v N b m
  owned_facts h = either (eqb (s.current modified) 1 && eqb s.copies 1) h
      (λ h. let k = both (eqb (s.current modified) 1) h in
      let e : count (has v b modified) N ≡ 1 = eqb-true _ 1 k.0 in
      let e' : count (copy v b) N ≡ 1 = eqb-true _ 1 k.1 in
      let o = only N (has v b modified) e in (
        o.0,
        modified_at o.1 (λ n l t. o.1.alone n l (and_both (copy_live v b n t)
            (codes_all v N b (λ c. eqb c modified) refl (e ∙ sym e') n l t))),
      ))
      (λ h. let k = both (eqb (s.current owner) 1) h in
      let e : count (has v b owner) N ≡ 1 = eqb-true _ 1 k.0 in
      let e' : count (copy v b) N ≡ 1 + count (has v b shared) N = eqb-true _ _ k.1 in
      let o = only N (has v b owner) e in
      (o.0, owner_at o.1 (codes_all v N b owner_code refl (omega (arith, two_codes v N b 2 1 (λ z. omega arith))))))

  pub dirty_facts : is_dirty s ≡ true → Dirty v N b
  dirty_facts h =
      let h₁ = both (is_owned s) h in
      let h₂ = both s.values.equal h₁.1 in
      let o = owned_facts h₁.0 in
      record { node = o.0; value = s.values.first; owned = o.1; values = current_values h₂.0; saved = saved_facts h₂.1 }

  pub created_facts : is_created s ≡ true → Created v N b
  created_facts h =
      let h₁ = both (eqb (s.current precommit1) 1) h in
      let h₂ = both (eqb (s.current precommit2) 1) h₁.1 in
      let h₃ = both (eqb s.copies (2 + s.current shared)) h₂.1 in
      let h₄ = both s.values.equal h₃.1 in
      let e₁ : count (has v b precommit1) N ≡ 1 = eqb-true _ 1 h₁.0 in
      let e₂ : count (has v b precommit2) N ≡ 1 = eqb-true _ 1 h₂.0 in
      let e₃ : count (copy v b) N ≡ 2 + count (has v b shared) N = eqb-true _ _ h₃.0 in
      let o₁ = only N (has v b precommit1) e₁ in
      let o₂ = only N (has v b precommit2) e₂ in
      record {
        one = o₁.0;
        two = o₂.0;
        value = s.values.first;
        first = o₁.1;
        second = o₂.1;
        others = codes_all v N b created_code refl (omega (arith, three_codes v N b 6 7 1 (λ z. omega arith) (λ z. omega arith) (λ z. omega arith)));
        values = current_values h₄.0;
        saved = saved_facts h₄.1;
      }

  pub item_kind : (phase : ℕ) → item_test phase s ≡ true → Kind phase v N b
  unfolding item_test
  item_kind phase h = either (is_clean s) h (λ h. clean (clean_facts h))
      (λ h. either (is_dirty s) h (λ h. dirty (dirty_facts h))
      (λ h. let k = both (eqb phase 1) h in created (eqb-true phase 1 k.0) (created_facts k.1)))
