-- Clean, dirty and created as facts: which live nodes hold an item's copies, and their values.
use mathlib.Core.Path.{◌≡◌, sym, ap, ◌∙◌}
use mathlib.Core.Logic.{◌≢◌}
use mathlib.Core.Bool.{Bool, true, false, not, ◌||◌}
use Prim.Native.Nat.{ℕ, ◌<◌}
use native.Mathlib.Omega.{arith}
use lib.Dec.{eqb}
use borrow.Author.Tests.{eqb-true, eqb-false, eq-eqb, ne_eqb, not-true, not-false}
use Rattle.table.specs.Words.{shared, owner, modified, shared_ck1, shared_ck2, precommit1, precommit2, inv_ck1, inv_ck2}
use Rattle.counting.proofs.Laws.Tests.{both, and_both, and_no_right}
use Rattle.table.specs.View.{View, live, current, kept}
use Rattle.counting.proofs.Laws.Counting.{Only}
use Rattle.entries.specs.Tally.{has, has_kept, copy, kept_copy}

-- codes that an item's current copies may have
abbrev pub clean_code : ℕ → Bool
clean_code c = eqb c shared_ck1 || (eqb c shared_ck2 || eqb c shared)

abbrev pub owner_code : ℕ → Bool
owner_code c = eqb c owner || eqb c shared

abbrev pub created_code : ℕ → Bool
created_code c = eqb c precommit1 || (eqb c precommit2 || eqb c shared)

-- ---- the facts of an item b, over nodes below N

module _ (v : View) (N b : ℕ) where
  -- "all values equal, nothing kept"
  pub record Clean : Type 0 where
    pub one : ℕ
    pub two : ℕ
    pub value : ℕ
    pub first : Only N (has v b shared_ck1) one
    pub second : Only N (has v b shared_ck2) two
    pub others : (n : ℕ) → n < N → copy v b n ≡ true → clean_code (current (v.entry n b)) ≡ true
    pub values : (n : ℕ) → n < N → copy v b n ≡ true → (v.entry n b).value ≡ value
    pub nothing : (n : ℕ) → n < N → kept_copy v b n ≡ false

  -- "one Inv-CK1, one Inv-CK2, values equal"
  pub record Saved : Type 0 where
    pub one : ℕ
    pub two : ℕ
    pub value : ℕ
    pub first : Only N (has_kept v b inv_ck1) one
    pub second : Only N (has_kept v b inv_ck2) two
    pub values : (n : ℕ) → n < N → kept_copy v b n ≡ true → (v.entry n b).kept_value ≡ value

  -- "one Modified and no other current copy, or one Owner with any number of Shared": the node that owns the item
  pub data Owned (m : ℕ) : Type 0 where
    modified_at : Only N (has v b modified) m → ((n : ℕ) → n < N → copy v b n ≡ true → n ≡ m) → Owned m
    owner_at : Only N (has v b owner) m → ((n : ℕ) → n < N → copy v b n ≡ true → owner_code (current (v.entry n b)) ≡ true) → Owned m

  pub record Dirty : Type 0 where
    pub node : ℕ
    pub value : ℕ
    pub owned : Owned node
    pub values : (n : ℕ) → n < N → copy v b n ≡ true → (v.entry n b).value ≡ value
    pub saved : Saved

  -- "Precommit1 and Precommit2 in the Owner's stead"
  pub record Created : Type 0 where
    pub one : ℕ
    pub two : ℕ
    pub value : ℕ
    pub first : Only N (has v b precommit1) one
    pub second : Only N (has v b precommit2) two
    pub others : (n : ℕ) → n < N → copy v b n ≡ true → created_code (current (v.entry n b)) ≡ true
    pub values : (n : ℕ) → n < N → copy v b n ≡ true → (v.entry n b).value ≡ value
    pub saved : Saved

pub data Kind (phase : ℕ) (v : View) (N b : ℕ) : Type 0 where
  clean : Clean v N b → Kind phase v N b
  dirty : Dirty v N b → Kind phase v N b
  created : phase ≡ 1 → Created v N b → Kind phase v N b

-- ---- what the tests of one node say

module _ (v : View) (b n : ℕ) where
  pub has_live : (code : ℕ) → has v b code n ≡ true → live v n ≡ true
  has_live code h = (both (live v n) h).0

  pub has_code : (code : ℕ) → has v b code n ≡ true → current (v.entry n b) ≡ code
  has_code code h = eqb-true (current (v.entry n b)) code (both (live v n) h).1

  pub has_at_lem : (code : ℕ) → live v n ≡ true → current (v.entry n b) ≡ code → has v b code n ≡ true
  has_at_lem code l e = and_both l (eq-eqb (current (v.entry n b)) code e)

  pub copy_at : live v n ≡ true → current (v.entry n b) ≢ 0 → copy v b n ≡ true
  copy_at l d = and_both l (ap not (ne_eqb (current (v.entry n b)) 0 d))

  pub copy_live : copy v b n ≡ true → live v n ≡ true
  copy_live h = (both (live v n) h).0

  pub copy_code : copy v b n ≡ true → current (v.entry n b) ≢ 0
  copy_code h = eqb-false (current (v.entry n b)) 0 (not-true (eqb (current (v.entry n b)) 0) (both (live v n) h).1)

  pub has_copy_lem : (code : ℕ) → code ≢ 0 → has v b code n ≡ true → copy v b n ≡ true
  has_copy_lem code d h = copy_at (both (live v n) h).0 (λ z. d (sym (has_code code h) ∙ z))

  pub keep_at : live v n ≡ true → kept (v.entry n b) ≢ 0 → kept_copy v b n ≡ true
  keep_at l d = and_both l (ap not (ne_eqb (kept (v.entry n b)) 0 d))

  pub no_keep : live v n ≡ true → kept_copy v b n ≡ false → kept (v.entry n b) ≡ 0
  no_keep l h = eqb-true (kept (v.entry n b)) 0 (not-false (eqb (kept (v.entry n b)) 0) (and_no_right (live v n) l h))

  pub no_copy_lem : live v n ≡ true → copy v b n ≡ false → current (v.entry n b) ≡ 0
  no_copy_lem l h = eqb-true (current (v.entry n b)) 0 (not-false (eqb (current (v.entry n b)) 0) (and_no_right (live v n) l h))

-- ---- two codes, two nodes

module _ (v : View) (N b m n : ℕ) where
  pub has_apart : (i j : ℕ) → i ≢ j → Only N (has v b i) m → Only N (has v b j) n → m ≢ n
  has_apart i j d p q e = d (sym (has_code v b m i p.holds) ∙ ap (λ k. current (v.entry k b)) e ∙ has_code v b n j q.holds)

module _ (v : View) (N b : ℕ) where
  pub clean_apart : (k : Clean v N b) → k.one ≢ k.two
  clean_apart k = has_apart v N b _ _ shared_ck1 shared_ck2 (λ z. omega arith) k.first k.second

  pub created_apart : (k : Created v N b) → k.one ≢ k.two
  created_apart k = has_apart v N b _ _ precommit1 precommit2 (λ z. omega arith) k.first k.second
