-- Shared copies come and go, and nothing else changes: the item is of its kind still.
use mathlib.Core.Path.{◌≡◌, refl, sym, ap, ap₂, ◌∙◌}
use mathlib.Core.Logic.{◌≢◌, ◌⊎◌, inl, inr, ⊎_elim}
use mathlib.Core.Bool.{Bool, true, not, ◌&&◌}
use Prim.Native.Nat.{ℕ, ◌<◌, ◌≤◌}
use native.Mathlib.Omega.{arith}
use native.Mathlib.Decide.{ℕ_discrete}
use lib.Dec.{eqb}
use borrow.Author.Tests.{ne_eqb}
use Rattle.table.specs.Words.{shared, owner, modified, shared_ck1, shared_ck2, precommit1, precommit2, inv_ck1, inv_ck2}
use Rattle.table.specs.View.{View, live, current, kept}
use Rattle.counting.proofs.Laws.Counting.{Only, only_same}
use Rattle.entries.specs.Tally.{has, has_kept, copy, kept_copy}
use Rattle.entries.proofs.Laws.Kinds.{clean_code, owner_code, created_code, Clean, Saved, Owned, modified_at, owner_at, Kind, clean, dirty, created, copy_live, copy_code, copy_at}
use Rattle.entries.proofs.Laws.Update.{Elsewhere}

-- marks, kept copies, and current places that are neither Invalid nor Shared are as they were
pub record Steady (v w : View) (N b : ℕ) : Type 0 where
  pub mark : (m : ℕ) → m < N → w.mark m ≡ v.mark m
  pub codes : (m code : ℕ) → m < N → 2 ≤ code → eqb (current (w.entry m b)) code ≡ eqb (current (v.entry m b)) code
  pub kept : (m : ℕ) → m < N → kept (w.entry m b) ≡ kept (v.entry m b)
  pub kept_value : (m : ℕ) → m < N → (w.entry m b).kept_value ≡ (v.entry m b).kept_value

-- node m's current copy is as it was
abbrev pub AsItWas : View → View → ℕ → ℕ → Type 0
AsItWas v w b m = (current (w.entry m b) ≡ current (v.entry m b)) × ((w.entry m b).value ≡ (v.entry m b).value)

-- no copy is new
pub record Fewer (v w : View) (N b : ℕ) : Type 0 where
  pub left : (m : ℕ) → m < N → current (w.entry m b) ≢ 0 → AsItWas v w b m

-- a new copy is Shared, of value x
pub record More (v w : View) (N b x : ℕ) : Type 0 where
  pub come : (m : ℕ) → m < N → current (w.entry m b) ≢ 0 → AsItWas v w b m ⊎ ((current (w.entry m b) ≡ shared) × ((w.entry m b).value ≡ x))

module _ (v w : View) (N b : ℕ) (s : Steady v w N b) where
  same_live : (m : ℕ) → m < N → live w m ≡ live v m
  same_live m l = ap (λ x. not (eqb x 0)) (s.mark m l)

  same_keep : (m : ℕ) → m < N → kept_copy w b m ≡ kept_copy v b m
  same_keep m l = ap₂ ◌&&◌ (same_live m l) (ap (λ x. not (eqb x 0)) (s.kept m l))

  only_has : (code m : ℕ) → 2 ≤ code → Only N (has v b code) m → Only N (has w b code) m
  only_has code m h o = only_same N (has v b code) (has w b code) m (λ n l. ap₂ ◌&&◌ (sym (same_live n l)) (sym (s.codes n code l h))) o

  only_kept : (code m : ℕ) → Only N (has_kept v b code) m → Only N (has_kept w b code) m
  only_kept code m o = only_same N (has_kept v b code) (has_kept w b code) m (λ n l. ap₂ ◌&&◌ (sym (same_live n l)) (ap (λ x. eqb x code) (sym (s.kept n l)))) o

  pub saved_steady : Saved v N b → Saved w N b
  saved_steady k = record {
    one = k.one;
    two = k.two;
    value = k.value;
    first = only_kept inv_ck1 k.one k.first;
    second = only_kept inv_ck2 k.two k.second;
    values = λ n l t. s.kept_value n l ∙ k.values n l (sym (same_keep n l) ∙ t);
  }

  -- a copy that is as it was, was a copy
  was : (n : ℕ) → n < N → copy w b n ≡ true → AsItWas v w b n → copy v b n ≡ true
  was n l t a = copy_at v b n (sym (same_live n l) ∙ copy_live w b n t) (λ z. copy_code w b n t (a.0 ∙ z))

  -- ---- fewer

  module _ (f : Fewer v w N b) where
    still : (n : ℕ) → n < N → copy w b n ≡ true → copy v b n ≡ true
    still n l t = was n l t (f.left n l (copy_code w b n t))

    codes_left :
        (codes : ℕ → Bool) → ((n : ℕ) → n < N → copy v b n ≡ true → codes (current (v.entry n b)) ≡ true) → (n : ℕ) → n < N → copy w b n ≡ true
        → codes (current (w.entry n b)) ≡ true
    codes_left codes h n l t = ap codes (f.left n l (copy_code w b n t)).0 ∙ h n l (still n l t)

    values_left : (x : ℕ) → ((n : ℕ) → n < N → copy v b n ≡ true → (v.entry n b).value ≡ x) → (n : ℕ) → n < N → copy w b n ≡ true → (w.entry n b).value ≡ x
    values_left x h n l t = (f.left n l (copy_code w b n t)).1 ∙ h n l (still n l t)

    owned_left : (m : ℕ) → Owned v N b m → Owned w N b m
    owned_left m (modified_at o h) = modified_at (only_has modified m (omega arith) o) (λ n l t. h n l (still n l t))
    owned_left m (owner_at o h) = owner_at (only_has owner m (omega arith) o) (codes_left owner_code h)

    pub kind_left : (phase : ℕ) → Kind phase v N b → Kind phase w N b
    kind_left phase (clean k) = clean (record {
      one = k.one;
      two = k.two;
      value = k.value;
      first = only_has shared_ck1 k.one (omega arith) k.first;
      second = only_has shared_ck2 k.two (omega arith) k.second;
      others = codes_left clean_code k.others;
      values = values_left k.value k.values;
      nothing = λ n l. same_keep n l ∙ k.nothing n l;
    })
    kind_left phase (dirty k) = dirty (record
        { node = k.node; value = k.value; owned = owned_left k.node k.owned; values = values_left k.value k.values; saved = saved_steady k.saved })
    kind_left phase (created e k) = created e (record {
      one = k.one;
      two = k.two;
      value = k.value;
      first = only_has precommit1 k.one (omega arith) k.first;
      second = only_has precommit2 k.two (omega arith) k.second;
      others = codes_left created_code k.others;
      values = values_left k.value k.values;
      saved = saved_steady k.saved;
    })

  -- ---- more, of the item's value

  module _ (x : ℕ) (g : More v w N b x) where
    codes_come :
        (codes : ℕ → Bool) → codes shared ≡ true → ((n : ℕ) → n < N → copy v b n ≡ true → codes (current (v.entry n b)) ≡ true) → (n : ℕ) → n < N
        → copy w b n ≡ true → codes (current (w.entry n b)) ≡ true
    codes_come codes c h n l t = ⊎_elim (λ a. ap codes a.0 ∙ h n l (was n l t a)) (λ a. ap codes a.0 ∙ c) (g.come n l (copy_code w b n t))

    values_come : ((n : ℕ) → n < N → copy v b n ≡ true → (v.entry n b).value ≡ x) → (n : ℕ) → n < N → copy w b n ≡ true → (w.entry n b).value ≡ x
    values_come h n l t = ⊎_elim (λ a. a.1 ∙ h n l (was n l t a)) (λ a. a.1) (g.come n l (copy_code w b n t))

    pub clean_come : (k : Clean v N b) → k.value ≡ x → Clean w N b
    clean_come k e = record {
      one = k.one;
      two = k.two;
      value = x;
      first = only_has shared_ck1 k.one (omega arith) k.first;
      second = only_has shared_ck2 k.two (omega arith) k.second;
      others = codes_come clean_code refl k.others;
      values = values_come (λ n l t. k.values n l t ∙ e);
      nothing = λ n l. same_keep n l ∙ k.nothing n l;
    }

-- ---- one entry

-- at n, or elsewhere
at : (n m : ℕ) (P : ℕ → Type 0) → P n → (m ≢ n → P m) → P m
at n m P p f = elim (ℕ_discrete m n) [ yes e ↦ rw e p | no e ↦ f e ]

module _ (v w : View) (N n b : ℕ) (e : Elsewhere v w n b) (k : kept (w.entry n b) ≡ kept (v.entry n b)) (q : (w.entry n b).kept_value ≡ (v.entry n b).kept_value) where
  one_steady : current (v.entry n b) < 2 → current (w.entry n b) < 2 → Steady v w N b
  one_steady h g = record {
    mark = λ m l. e.mark m;
    codes = λ m code l c. at n m (λ m. eqb (current (w.entry m b)) code ≡ eqb (current (v.entry m b)) code)
        (ne_eqb (current (w.entry n b)) code (λ z. omega arith) ∙ sym (ne_eqb (current (v.entry n b)) code (λ z. omega arith))) (λ d. ap (λ x. eqb (current x) code) (e.entry m d));
    kept = λ m l. at n m (λ m. kept (w.entry m b) ≡ kept (v.entry m b)) k (λ d. ap kept (e.entry m d));
    kept_value = λ m l. at n m (λ m. (w.entry m b).kept_value ≡ (v.entry m b).kept_value) q (λ d. ap (λ x. x.kept_value) (e.entry m d));
  }

  -- a Shared copy is dropped
  pub drop_shared : current (v.entry n b) ≡ shared → current (w.entry n b) ≡ 0 → (phase : ℕ) → Kind phase v N b → Kind phase w N b
  drop_shared h g = kind_left v w N b (one_steady (omega arith) (omega arith))
      (record { left = λ m l. at n m (λ m. current (w.entry m b) ≢ 0 → AsItWas v w b m) (λ z. absurd (z g)) (λ d _. (ap current (e.entry m d), ap (λ x. x.value) (e.entry m d))) })

  -- a Shared copy is added
  one_more : current (w.entry n b) ≡ shared → More v w N b (w.entry n b).value
  one_more g = record
      { come = λ m l. at n m (λ m. current (w.entry m b) ≢ 0 → AsItWas v w b m ⊎ ((current (w.entry m b) ≡ shared) × ((w.entry m b).value ≡ (w.entry n b).value))) (λ _. inr (g, refl)) (λ d _. inl (ap current (e.entry m d), ap (λ x. x.value) (e.entry m d))) }

  pub add_shared_clean : current (v.entry n b) ≡ 0 → current (w.entry n b) ≡ shared → (c : Clean v N b) → c.value ≡ (w.entry n b).value → Clean w N b
  add_shared_clean h g = clean_come v w N b (one_steady (omega arith) (omega arith)) (w.entry n b).value (one_more g)
