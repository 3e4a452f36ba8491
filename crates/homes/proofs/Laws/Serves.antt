-- The relation of a table to a plain memory: a sound table whose current copies have the values written, whose recovery copies have the values saved, and
-- whose marks carry the number of the point saved. It says nothing of states and places beyond that.
use Rattle.std.specs.Prelude.{Ok}
use Prim.Native.Nat.{ℕ, ◌<◌}
use mathlib.Core.Path.{◌≡◌, sym, ap, ◌∙◌}
use mathlib.Core.Logic.{◌≢◌}
use mathlib.Core.Bool.{true, false, not}
use mathlib.Core.List.{List}
use native.Mathlib.Omega.{arith}
use lib.Dec.{eqb}
use Rattle.counting.proofs.Laws.Tests.{by_cases, both, no_both}
use Rattle.table.specs.declared.geometry.Geometry.{Geometry}
use Rattle.table.specs.Words.{number_of}
use Rattle.table.specs.View.{View, view, live, current}
use Rattle.table.specs.Copies.{back_copy, copy_number, copy_value}
use Rattle.entries.specs.Check.{fault_of}
use Rattle.entries.proofs.Laws.SoundFacts.{number_in}
use Rattle.entries.proofs.Laws.CheckFacts.{Accepted, accepted_facts, facts_accepted, sound_pair}
use Rattle.homes.proofs.Laws.Kept.{Live, Kept, live_test, test_live}

module _ (g : Geometry) (v : View) where
  -- every live current copy of item b has value `values b`
  abbrev pub CurrentHave : (ℕ → ℕ) → Type 0
  CurrentHave values = (n b : ℕ) → Live g v n → b < g.items → current (v.entry n b) ≢ 0 → (v.entry n b).value ≡ values b

  -- every live recovery copy of item b, for a roll back, has value `saved b`
  abbrev pub BackHave : (ℕ → ℕ) → Type 0
  BackHave saved =
      (n b : ℕ) → Live g v n → b < g.items → copy_number (back_copy (v.entry n b)) ≢ 0 → copy_value (back_copy (v.entry n b)) ≡ saved b

pub record Serves (t : List ℕ) (g : Geometry) (values saved : ℕ → ℕ) (number : ℕ) : Type 0 where
  pub passed : fault_of t ≡ Ok g
  pub number_is : (n : ℕ) → Live g (view g t) n → number_of ((view g t).mark n) ≡ number
  pub current : CurrentHave g (view g t) values
  pub back : BackHave g (view g t) saved

-- ---- small laws

-- a table has one geometry
pub same_geometry : (t : List ℕ) {g g' : Geometry} → fault_of t ≡ Ok g → fault_of t ≡ Ok g' → g' ≡ g
same_geometry t {g} {g'} p q = let e : Ok g' ≡ Ok g = sym q ∙ p in cc

-- the number as the checks find it
pub serves_number : (t : List ℕ) (g : Geometry) (values saved : ℕ → ℕ) (number : ℕ) → Serves t g values saved number → number_in g (view g t) ≡ number
serves_number t g values saved number s =
    let a = accepted_facts t g s.passed in
    let p = sound_pair g (view g t) _ _ a.table 0 (omega (arith, a.shape.sizes)) in
    let l : live (view g t) p.one ≡ true = (both (live (view g t) p.one) p.first.holds).0 in
    sym (a.table.numbers p.one p.first.within l) ∙ s.number_is p.one (test_live g (view g t) p.one p.first.within l)

-- a table that passes with these copies
pub serves_by :
    (t : List ℕ) (g : Geometry) (values saved : ℕ → ℕ) (phase number : ℕ) → Accepted t g phase number → CurrentHave g (view g t) values
    → BackHave g (view g t) saved → Serves t g values saved number
serves_by t g values saved phase number a c b = record {
  passed = facts_accepted t g phase number a;
  number_is = λ n l. a.table.numbers n l.there (live_test g (view g t) n l);
  current = c;
  back = b;
}

-- ---- v at entry, w at the end

module _ (g : Geometry) (v w : View) where
  -- the live nodes are the same ones
  pub live_kept : w.mark ≡ v.mark → (n : ℕ) → Live g w n → Live g v n
  live_kept m n l = record { there = l.there; marked = λ z. l.marked (ap (λ f. f n) m ∙ z) }

  pub live_marked : ((n : ℕ) → live v n ≡ false → w.mark n ≡ v.mark n) → (n : ℕ) → Live g w n → Live g v n
  live_marked d n l = by_cases (live v n) (test_live g v n l.there)
      (λ f. absurd (no_both (live_test g w n l) (ap (λ x. not (eqb x 0)) (d n f) ∙ f)))

  module _ (lives : (n : ℕ) → Live g w n → Live g v n) where
    -- recovery copies that are as they were
    pub back_kept :
        (saved : ℕ → ℕ) → ((n b : ℕ) → Live g v n → b < g.items → back_copy (w.entry n b) ≡ back_copy (v.entry n b)) → BackHave g v saved
        → BackHave g w saved
    back_kept saved same h n b l i d =
        let e = same n b (lives n l) i in
        ap copy_value e ∙ h n b (lives n l) i (λ z. d (ap copy_number e ∙ z))

  pub back_held : (saved : ℕ → ℕ) → Kept g v w → BackHave g v saved → BackHave g w saved
  back_held saved k = back_kept (live_kept k.marks) saved k.back
