-- One entry is changed: how the counts of its item change, and who is the only node with a code then.
use mathlib.Core.Path.{◌≡◌, sym, ap, ap₂, ◌∙◌}
use mathlib.Core.Logic.{◌≢◌}
use mathlib.Core.Bool.{true, false, not, ◌&&◌}
use Prim.Native.Nat.{ℕ, ◌<◌}
use native.Mathlib.Decide.{ℕ_discrete}
use lib.Dec.{eqb}
use borrow.Author.Tests.{eq-eqb, ne_eqb}
use Rattle.counting.proofs.Laws.Tests.{and_both, and_no}
use Rattle.table.specs.View.{View, live, current}
use Rattle.counting.proofs.Laws.Counting.{Only, only_same}
use Rattle.entries.specs.Tally.{has}

-- the marks are the same, and item b is the same on every node but n
pub record Elsewhere (v w : View) (n b : ℕ) : Type 0 where
  pub mark : (m : ℕ) → w.mark m ≡ v.mark m
  pub entry : (m : ℕ) → m ≢ n → w.entry m b ≡ v.entry m b

-- ---- the only node with a code: what a change of code at node n does to it

module _ (v w : View) (N n b : ℕ) (e : Elsewhere v w n b) where
  has_elsewhere : (code m : ℕ) → m ≢ n → has w b code m ≡ has v b code m
  has_elsewhere code m d = ap₂ ◌&&◌ (ap (λ x. not (eqb x 0)) (e.mark m)) (ap (λ x. eqb (current x) code) (e.entry m d))

  -- n gets the code, and nobody else had it
  pub only_gains :
      (code : ℕ) → n < N → live v n ≡ true → current (w.entry n b) ≡ code → ((m : ℕ) → m < N → has v b code m ≡ true → m ≡ n)
      → Only N (has w b code) n
  only_gains code h l c free = record {
    within = h;
    holds = and_both (ap (λ x. not (eqb x 0)) (e.mark n) ∙ l) (eq-eqb (current (w.entry n b)) code c);
    alone = λ m k t. elim (ℕ_discrete m n) [ yes d ↦ d | no d ↦ free m k (sym (has_elsewhere code m d) ∙ t) ];
  }

  -- n had another code and gets another code
  pub only_keeps : (code m : ℕ) → current (v.entry n b) ≢ code → current (w.entry n b) ≢ code → Only N (has v b code) m → Only N (has w b code) m
  only_keeps code m p q o = only_same N (has v b code) (has w b code) m
      (λ k l. elim (ℕ_discrete k n) [ yes d ↦ rw d (at_n ∙ sym at_n') | no d ↦ sym (has_elsewhere code k d) ]) o
    where
      at_n : has v b code n ≡ false
      at_n = and_no (live v n) (ne_eqb (current (v.entry n b)) code p)

      at_n' : has w b code n ≡ false
      at_n' = and_no (live w n) (ne_eqb (current (w.entry n b)) code q)
