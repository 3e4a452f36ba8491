-- Counts by code against the count of copies: the codes count as many as there are copies if and only if each copy has one of the codes.
use mathlib.Core.Path.{◌≡◌, refl, sym, ap, ◌∙◌}
use mathlib.Core.Logic.{◌≢◌}
use mathlib.Core.Bool.{Bool, true, false, ◌&&◌, ◌||◌}
use Prim.Native.Nat.{ℕ, ◌+◌, ◌<◌}
use lib.Dec.{eqb}
use Rattle.counting.proofs.Laws.Tests.{no_both, both, and_both, by_cases, eqb_apart}
use Rattle.table.specs.View.{View, live, current}
use Rattle.counting.specs.Counting.{count}
use Rattle.counting.proofs.Laws.Counting.{count_ext, count_or, count_tight}
use Rattle.entries.specs.Tally.{has, copy}
use Rattle.entries.proofs.Laws.Kinds.{copy_at, copy_live}

apart_or : (a x y : Bool) → (a && x) ≡ false → (a && y) ≡ false → (a && (x || y)) ≡ false
apart_or true x y p q = rw (p, q) refl
apart_or false x y p q = refl

module _ (v : View) (N b : ℕ) where
  -- live nodes whose current code is one of the codes
  abbrev pub coded : (ℕ → Bool) → ℕ → Bool
  coded codes n = live v n && codes (current (v.entry n b))

  pub two_codes : (i j : ℕ) → i ≢ j → count (coded (λ c. eqb c i || eqb c j)) N ≡ count (has v b i) N + count (has v b j) N
  two_codes i j d = count_or N (live v) (λ n. eqb (current (v.entry n b)) i) (λ n. eqb (current (v.entry n b)) j) (λ n. eqb_apart (current (v.entry n b)) i j d)

  pub three_codes :
      (i j k : ℕ) → i ≢ j → i ≢ k → j ≢ k
      → count (coded (λ c. eqb c i || (eqb c j || eqb c k))) N ≡ count (has v b i) N + (count (has v b j) N + count (has v b k) N)
  three_codes i j k d e f =
      let c : ℕ → ℕ = λ n. current (v.entry n b) in
      count_or N (live v) (λ n. eqb (c n) i) (λ n. eqb (c n) j || eqb (c n) k)
      (λ n. apart_or (eqb (c n) i) (eqb (c n) j) (eqb (c n) k) (eqb_apart (c n) i j d) (eqb_apart (c n) i k e))
      ∙ ap (λ m. count (has v b i) N + m) (two_codes j k f)

  -- the codes count as many as there are copies: each copy has one of them; and back
  module _ (codes : ℕ → Bool) (zero-not : codes 0 ≡ false) where
    coded_copy : (n : ℕ) → coded codes n ≡ true → copy v b n ≡ true
    coded_copy n h = let k = both (live v n) h in copy_at v b n k.0 (λ z. no_both k.1 (ap codes z ∙ zero-not))

    pub codes_all : count (coded codes) N ≡ count (copy v b) N → (n : ℕ) → n < N → copy v b n ≡ true → codes (current (v.entry n b)) ≡ true
    codes_all e n l h = (both (live v n) (count_tight N (coded codes) (copy v b) (λ m _. coded_copy m) e n l h)).1

    pub all_codes : ((n : ℕ) → n < N → copy v b n ≡ true → codes (current (v.entry n b)) ≡ true) → count (coded codes) N ≡ count (copy v b) N
    all_codes h = count_ext N (coded codes) (copy v b) (λ n l. iff n l)
      where
        iff : (n : ℕ) → n < N → coded codes n ≡ copy v b n
        iff n l = by_cases (copy v b n)
            (λ e. and_both (copy_live v b n e) (h n l e) ∙ sym e)
            (λ e. by_cases (coded codes n) (λ f. absurd (no_both (coded_copy n f) e)) (λ f. f ∙ sym e))
