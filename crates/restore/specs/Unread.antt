-- "A dead node's words, mark apart, are never read", as one type: no call's answer and no store of its list rests on
-- them; nor does Recover's on the lost node's words, its mark included.
use Rattle.std.specs.Prelude.{ℕ, ◌≡◌, Bool, false, not, ◌&&◌, List, length, get_or, Option}
use Rattle.counting.specs.Counting.{exists}
use Rattle.table.specs.declared.geometry.Geometry.{Geometry}
use Rattle.table.specs.View.{View, view, live}
use Rattle.restore.specs.declared.call.Call.{Call}
use Rattle.restore.specs.declared.call.Call.TheVariants.{Recover}
use Rattle.restore.specs.Call.{plan_of}
use Rattle.restore.specs.Run.{geometry_in}
use Rattle.restore.specs.Strike.{of_entries, of_lost}

-- "A dead node's words, mark apart": word i is one of the words of a dead node's entries
unfoldable pub of_dead : Geometry → View → ℕ → Bool
of_dead g v i = exists (λ n. not (live v n) && of_entries g n i) g.nodes

-- tables that differ in no other word
pub record SameButDead (t t' : List ℕ) : Type 0 where
  pub size : length t' ≡ length t
  pub rest : (i : ℕ) → of_dead (geometry_in t) (view (geometry_in t) t) i ≡ false → get_or t' i 0 ≡ get_or t i 0

-- or in the lost node's words too
pub record SameButLost (lost : Option ℕ) (t t' : List ℕ) : Type 0 where
  pub size : length t' ≡ length t
  pub rest :
      (i : ℕ) → of_lost (geometry_in t) lost i ≡ false → of_dead (geometry_in t) (view (geometry_in t) t) i ≡ false
      → get_or t' i 0 ≡ get_or t i 0

-- "never read": the same plan, so the same answer, value and stores at every limit
pub record Unread : Type 0 where
  pub by_calls :
      (t t' : List ℕ) → SameButDead t t' → (scratch : ℕ) (call : Call) → plan_of t' scratch call ≡ plan_of t scratch call
  pub by_recover :
      (lost : Option ℕ) (t t' : List ℕ) → SameButLost lost t t' → (scratch : ℕ)
      → plan_of t' scratch (Recover lost) ≡ plan_of t scratch (Recover lost)
