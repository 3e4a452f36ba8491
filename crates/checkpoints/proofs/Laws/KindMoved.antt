-- The kind of an item when marks change, and when its Precommit copies do.
use Prim.Native.Nat.{ℕ, ◌<◌}
use mathlib.Core.Path.{◌≡◌, refl, sym, ap, ◌∙◌}
use mathlib.Core.Bool.{Bool, true, false, not, ◌&&◌, ◌||◌}
use native.Mathlib.Omega.{arith}
use lib.Dec.{eqb}
use borrow.Author.Tests.{eqb-true, eqb-false}
use Rattle.counting.proofs.Laws.Tests.{by_cases, and_same, both, either, or_right, no_both}
use Rattle.counting.proofs.Laws.Counting.{Only, only_same}
use Rattle.table.specs.Words.{shared, owner, modified, shared_ck1, shared_ck2, precommit1, precommit2, inv_ck1, inv_ck2}
use Rattle.table.specs.View.{View, live, current, kept}
use Rattle.entries.specs.Tally.{has, has_kept, copy, kept_copy}
use Rattle.entries.proofs.Laws.Kinds.{clean_code, owner_code, created_code, Clean, Saved, Owned, modified_at, owner_at, Dirty, Created, has_live, has_code, has_at_lem, copy_at, copy_live, copy_code}
use Rattle.checkpoints.specs.Checkpoint.{is_precommit}

-- a test of live nodes only
test_same : (a a' x y : Bool) → a' ≡ a → (a ≡ true → y ≡ x) → (a' && y) ≡ (a && x)
test_same a a' x y e f = ap (λ q. q && y) e ∙ and_same a y x f

-- ---- the codes of a created item's current places, and what becomes of them

pub data Moves (x y c d : ℕ) : Type 0 where
  was_none : c ≡ 0 → d ≡ 0 → Moves x y c d
  was_shared : c ≡ shared → d ≡ shared → Moves x y c d
  was_one : c ≡ precommit1 → d ≡ x → Moves x y c d
  was_two : c ≡ precommit2 → d ≡ y → Moves x y c d

module _ {x y c d : ℕ} where
  becomes_one : c ≡ precommit1 → Moves x y c d → d ≡ x
  becomes_one e (was_none p q) = absurd (omega arith)
  becomes_one e (was_shared p q) = absurd (omega arith)
  becomes_one e (was_one p q) = q
  becomes_one e (was_two p q) = absurd (omega arith)

  becomes_two : c ≡ precommit2 → Moves x y c d → d ≡ y
  becomes_two e (was_none p q) = absurd (omega arith)
  becomes_two e (was_shared p q) = absurd (omega arith)
  becomes_two e (was_one p q) = absurd (omega arith)
  becomes_two e (was_two p q) = q

  from_one : 1 < x → (x ≡ y → ⊥) → d ≡ x → Moves x y c d → c ≡ precommit1
  from_one h a e (was_none p q) = absurd (omega arith)
  from_one h a e (was_shared p q) = absurd (omega arith)
  from_one h a e (was_one p q) = p
  from_one h a e (was_two p q) = absurd (a (sym e ∙ q))

  from_two : 1 < y → (x ≡ y → ⊥) → d ≡ y → Moves x y c d → c ≡ precommit2
  from_two h a e (was_none p q) = absurd (omega arith)
  from_two h a e (was_shared p q) = absurd (omega arith)
  from_two h a e (was_one p q) = absurd (a (sym q ∙ e))
  from_two h a e (was_two p q) = p

  none_stays : c ≡ 0 → Moves x y c d → d ≡ 0
  none_stays e (was_none p q) = q
  none_stays e (was_shared p q) = absurd (omega arith)
  none_stays e (was_one p q) = absurd (omega arith)
  none_stays e (was_two p q) = absurd (omega arith)

  codes_of : (codes : ℕ → Bool) → codes shared ≡ true → codes x ≡ true → codes y ≡ true → (d ≡ 0 → ⊥) → Moves x y c d → codes d ≡ true
  codes_of codes h hx hy e (was_none p q) = absurd (e q)
  codes_of codes h hx hy e (was_shared p q) = ap codes q ∙ h
  codes_of codes h hx hy e (was_one p q) = ap codes q ∙ hx
  codes_of codes h hx hy e (was_two p q) = ap codes q ∙ hy

-- by what the code table makes of each
pub created_moves :
    (x y : ℕ) (new : ℕ → ℕ) (v : View) (b n : ℕ) → new 0 ≡ 0 → new shared ≡ shared → new precommit1 ≡ x → new precommit2 ≡ y
    → live v n ≡ true → (copy v b n ≡ true → created_code (current (v.entry n b)) ≡ true)
    → Moves x y (current (v.entry n b)) (new (current (v.entry n b)))
created_moves x y new v b n h₀ h₁ h₂ h₃ t created = by_cases (eqb (current (v.entry n b)) 0)
    (λ z. let e = eqb-true (current (v.entry n b)) 0 z in was_none e (ap new e ∙ h₀))
    (λ z. let c = created (copy_at v b n t (eqb-false (current (v.entry n b)) 0 z)) in
    either (eqb (current (v.entry n b)) precommit1) c
    (λ z. let e = eqb-true (current (v.entry n b)) precommit1 z in was_one e (ap new e ∙ h₂))
    (λ c. either (eqb (current (v.entry n b)) precommit2) c
    (λ z. let e = eqb-true (current (v.entry n b)) precommit2 z in was_two e (ap new e ∙ h₃))
    (λ z. let e = eqb-true (current (v.entry n b)) shared z in was_shared e (ap new e ∙ h₁))))

-- ---- an item without Precommit

pub not_precommit :
    (codes : ℕ → Bool) (v : View) (b n : ℕ) → codes precommit1 ≡ false → codes precommit2 ≡ false → live v n ≡ true
    → (copy v b n ≡ true → codes (current (v.entry n b)) ≡ true) → is_precommit (current (v.entry n b)) ≡ false
not_precommit codes v b n f₁ f₂ t h = by_cases (is_precommit (current (v.entry n b)))
    (λ p. absurd (either (eqb (current (v.entry n b)) precommit1) p
    (λ z. let e = eqb-true (current (v.entry n b)) precommit1 z in no_both (h (copy_at v b n t (λ w. omega arith))) (ap codes e ∙ f₁))
    (λ z. let e = eqb-true (current (v.entry n b)) precommit2 z in no_both (h (copy_at v b n t (λ w. omega arith))) (ap codes e ∙ f₂))))
    (λ p. p)

abbrev pub dirty_code : ℕ → Bool
dirty_code c = eqb c modified || owner_code c

pub dirty_codes : (v : View) (N b : ℕ) → Dirty v N b → (n : ℕ) → n < N → copy v b n ≡ true → dirty_code (current (v.entry n b)) ≡ true
dirty_codes v N b k = go k.node k.owned
  where
    go : (m : ℕ) → Owned v N b m → (n : ℕ) → n < N → copy v b n ≡ true → dirty_code (current (v.entry n b)) ≡ true
    go m (modified_at o h) n l t =
        ap dirty_code (ap (λ i. current (v.entry i b)) (h n l t) ∙ has_code v b m modified o.holds)
    go m (owner_at o h) n l t = or_right (eqb (current (v.entry n b)) modified) (h n l t)

-- the same live nodes
module _ (v w : View) (N b : ℕ) (lives : (n : ℕ) → n < N → live w n ≡ live v n) where
  -- ---- an item whose kept copies are as they were

  module _
      (same : (n : ℕ) → n < N → live v n ≡ true → kept (w.entry n b) ≡ kept (v.entry n b))
      (values : (n : ℕ) → n < N → live v n ≡ true → (w.entry n b).kept_value ≡ (v.entry n b).kept_value) where
    has_kept_lem : (code n : ℕ) → n < N → has_kept w b code n ≡ has_kept v b code n
    has_kept_lem code n l = test_same (live v n) (live w n) _ _ (lives n l) (λ t. ap (λ x. eqb x code) (same n l t))

    keep_same : (n : ℕ) → n < N → kept_copy w b n ≡ kept_copy v b n
    keep_same n l = test_same (live v n) (live w n) _ _ (lives n l) (λ t. ap (λ x. not (eqb x 0)) (same n l t))

    pub saved_moved : Saved v N b → Saved w N b
    saved_moved k = record {
      one = k.one;
      two = k.two;
      value = k.value;
      first = only_same N (has_kept v b inv_ck1) (has_kept w b inv_ck1) k.one (λ n l. sym (has_kept_lem inv_ck1 n l)) k.first;
      second = only_same N (has_kept v b inv_ck2) (has_kept w b inv_ck2) k.two (λ n l. sym (has_kept_lem inv_ck2 n l)) k.second;
      values = λ n l t.
          let was : kept_copy v b n ≡ true = sym (keep_same n l) ∙ t in
          values n l (both (live v n) was).0 ∙ k.values n l was;
    }

  -- ---- an item whose entries are as they were

  module _ (same : (n : ℕ) → n < N → live v n ≡ true → w.entry n b ≡ v.entry n b) where
    only_has : (code m : ℕ) → Only N (has v b code) m → Only N (has w b code) m
    only_has code m o =
        only_same N (has v b code) (has w b code) m
        (λ n l. sym (test_same (live v n) (live w n) _ _ (lives n l) (λ t. ap (λ x. eqb (current x) code) (same n l t)))) o

    copy_same : (n : ℕ) → n < N → copy w b n ≡ true → copy v b n ≡ true
    copy_same n l t =
        sym (test_same (live v n) (live w n) _ _ (lives n l) (λ t. ap (λ x. not (eqb (current x) 0)) (same n l t))) ∙ t

    entry_same : (n : ℕ) → n < N → copy w b n ≡ true → w.entry n b ≡ v.entry n b
    entry_same n l t = same n l (copy_live v b n (copy_same n l t))

    codes_same :
        (codes : ℕ → Bool) → ((n : ℕ) → n < N → copy v b n ≡ true → codes (current (v.entry n b)) ≡ true) → (n : ℕ) → n < N
        → copy w b n ≡ true → codes (current (w.entry n b)) ≡ true
    codes_same codes h n l t = ap (λ x. codes (current x)) (entry_same n l t) ∙ h n l (copy_same n l t)

    values_same :
        (x : ℕ) → ((n : ℕ) → n < N → copy v b n ≡ true → (v.entry n b).value ≡ x) → (n : ℕ) → n < N → copy w b n ≡ true
        → (w.entry n b).value ≡ x
    values_same x h n l t = ap (λ x. x.value) (entry_same n l t) ∙ h n l (copy_same n l t)

    pub clean_moved : Clean v N b → Clean w N b
    clean_moved k = record {
      one = k.one;
      two = k.two;
      value = k.value;
      first = only_has shared_ck1 k.one k.first;
      second = only_has shared_ck2 k.two k.second;
      others = codes_same clean_code k.others;
      values = values_same k.value k.values;
      nothing = λ n l. keep_same (λ n l t. ap kept (same n l t)) (λ n l t. ap (λ x. x.kept_value) (same n l t)) n l ∙ k.nothing n l;
    }

    pub clean_value : (k : Clean v N b) → (clean_moved k).value ≡ k.value
    unfolding clean_moved
    clean_value k = refl

    owned_moved : (m : ℕ) → Owned v N b m → Owned w N b m
    owned_moved m (modified_at o h) = modified_at (only_has modified m o) (λ n l t. h n l (copy_same n l t))
    owned_moved m (owner_at o h) = owner_at (only_has owner m o) (codes_same owner_code h)

    pub dirty_moved : Dirty v N b → Dirty w N b
    dirty_moved k = record {
      node = k.node;
      value = k.value;
      owned = owned_moved k.node k.owned;
      values = values_same k.value k.values;
      saved = saved_moved (λ n l t. ap kept (same n l t)) (λ n l t. ap (λ x. x.kept_value) (same n l t)) k.saved;
    }

  -- ---- a created item whose Precommit copies become copies of codes x and y

  module _ (x y : ℕ) (k : Created v N b) (moves : (n : ℕ) → n < N → live v n ≡ true → Moves x y (current (v.entry n b)) (current (w.entry n b))) where
    pub first_moved : 1 < x → (x ≡ y → ⊥) → Only N (has w b x) k.one
    first_moved h d = record {
      within = k.first.within;
      holds =
          let t = has_live v b k.one precommit1 k.first.holds in
          has_at_lem w b k.one x (lives k.one k.first.within ∙ t)
          (becomes_one (has_code v b k.one precommit1 k.first.holds) (moves k.one k.first.within t));
      alone = λ n l q.
          let t : live v n ≡ true = sym (lives n l) ∙ has_live w b n x q in
          k.first.alone n l (has_at_lem v b n precommit1 t (from_one h d (has_code w b n x q) (moves n l t)));
    }

    pub second_moved : 1 < y → (x ≡ y → ⊥) → Only N (has w b y) k.two
    second_moved h d = record {
      within = k.second.within;
      holds =
          let t = has_live v b k.two precommit2 k.second.holds in
          has_at_lem w b k.two y (lives k.two k.second.within ∙ t)
          (becomes_two (has_code v b k.two precommit2 k.second.holds) (moves k.two k.second.within t));
      alone = λ n l q.
          let t : live v n ≡ true = sym (lives n l) ∙ has_live w b n y q in
          k.second.alone n l (has_at_lem v b n precommit2 t (from_two h d (has_code w b n y q) (moves n l t)));
    }

    pub copy_was : (n : ℕ) → n < N → copy w b n ≡ true → copy v b n ≡ true
    copy_was n l q =
        let t : live v n ≡ true = sym (lives n l) ∙ copy_live w b n q in
        copy_at v b n t (λ z. copy_code w b n q (none_stays z (moves n l t)))

    pub codes_moved :
        (codes : ℕ → Bool) → codes shared ≡ true → codes x ≡ true → codes y ≡ true → (n : ℕ) → n < N → copy w b n ≡ true
        → codes (current (w.entry n b)) ≡ true
    codes_moved codes h hx hy n l q =
        let t : live v n ≡ true = sym (lives n l) ∙ copy_live w b n q in
        codes_of codes h hx hy (copy_code w b n q) (moves n l t)

    pub values_moved : ((n : ℕ) → n < N → live v n ≡ true → (w.entry n b).value ≡ (v.entry n b).value) → (n : ℕ) → n < N → copy w b n ≡ true → (w.entry n b).value ≡ k.value
    values_moved same n l q =
        let t : live v n ≡ true = sym (lives n l) ∙ copy_live w b n q in
        same n l t ∙ k.values n l (copy_was n l q)
