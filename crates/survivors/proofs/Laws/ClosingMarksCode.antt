-- The ways of the code that stores a recovery's marks: a law for each, over what the code has read.
use Rattle.std.specs.Prelude.{None, Option, Some}
use Prim.Native.Nat.{ℕ, ◌+◌, ◌<◌}
use mathlib.Core.Path.{◌≡◌, ap}
use mathlib.Core.Logic.{◌≢◌}
use mathlib.Core.Bool.{Bool, true, false, cond}
use mathlib.Core.List.{List, [], ◌∷◌}
use native.Mathlib.Omega.{arith}
use lib.Dec.{ltb, leb}
use borrow.Author.Tests.{leb-false}
use Rattle.table.specs.declared.geometry.Geometry.{Geometry}
use Rattle.table.specs.Geometry.{mark_at}
use Rattle.table.specs.Words.{mark_word}
use Rattle.table.specs.Stores.{Stored, mark_store, address_of, runs}
use Rattle.table.proofs.Laws.Stores.{All, none, more, all_runs, after_off, loop-turns, stored_none}
use Rattle.table.specs.View.{View, view, live, mark_to, marks_to}
use Rattle.survivors.specs.Survivors.{lost_stores, survivors, lost_outside, largest_number, closing_stores}
use Rattle.survivors.proofs.Laws.SurvivorsCode.{survivor_marks}

-- ---- the pass over the survivors' marks: a turn finds its mark as it was, whatever the limit

marks_off :
    (g : Geometry) (w : View) (f : ℕ → ℕ) (k : ℕ) {left left₁ : ℕ} {t t₁ : List ℕ} → Stored g left (runs (mark_to w f) k) t t₁ left₁
    → (view g t₁).mark k ≡ (view g t).mark k
unfolding view mark_to
marks_off g w f k {left} {t = t} s =
    ap (λ x. cond (ltb k g.nodes) x 0)
    (rw s.table (after_off g (mark_at k) left t (all_runs (mark_to w f) k (λ i l. go i l (live w i)))))
  where
    go : (i : ℕ) → i < k → (b : Bool) → All (λ s. mark_at k ≢ address_of g s) (cond b (mark_store i (f (w.mark i)) ∷ []) [])
    go i l true = more {s = mark_store i (f (w.mark i))} (λ (e : mark_at k ≡ mark_at i). omega arith) none
    go i l false = none

pub survivor_mark_turn :
    (g : Geometry) (lost : Option ℕ) (word k : ℕ) {left left₁ left₂ : ℕ} {t t₁ t₂ : List ℕ}
    → Stored g left (runs (mark_to (survivors lost (view g t)) (λ x. word)) k) t t₁ left₁
    → Stored g left₁ (mark_to (survivors lost (view g t₁)) (λ x. word) k) t₁ t₂ left₂
    → Stored g left (runs (mark_to (survivors lost (view g t)) (λ x. word)) (k + 1)) t t₂ left₂
unfolding mark_to
survivor_mark_turn g lost word k {t = t} {t₁} s r =
    loop-turns _ k s
    (rw (survivor_marks lost (view g t) (view g t₁) k (marks_off g (survivors lost (view g t)) (λ x. word) k s)) at r)

-- the marks get the largest number
pub closing_stored :
    (g : Geometry) (w : View) {number word l l₁ : ℕ} {t t₁ : List ℕ} → number ≡ largest_number g w → word ≡ mark_word 0 number
    → Stored g l (marks_to g w (λ x. word)) t t₁ l₁ → Stored g l (closing_stores g w) t t₁ l₁
unfolding closing_stores
closing_stored g w e q s = rw (← e, ← q) s

-- ---- the lost mark

pub lost_within : (g : Geometry) (lost : Option ℕ) {n : ℕ} → lost_outside g lost ≡ false → lost ≡ Some n → n < g.nodes
lost_within g lost {n} h e = let k : leb g.nodes n ≡ false = rw e at h in omega (arith, leb-false g.nodes n k)

pub lost_nobody : (g : Geometry) (lost : Option ℕ) (left : ℕ) (t : List ℕ) → lost ≡ None → Stored g left (lost_stores lost) t t left
lost_nobody g lost left t e = rw e (stored_none g left t)
