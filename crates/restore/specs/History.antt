-- A history: whole calls and strikes that ended in an accepted recovery, in any order, on one formatted table.
use Rattle.std.specs.Prelude.{ℕ, ◌<◌, ◌≡◌, true, false, cond, List, eqb}
use Rattle.std.proofs.Math.Option.{Option, none, some}
use Rattle.table.specs.View.{view}
use Rattle.layout.specs.Formatted.{Formatted}
use Rattle.restore.specs.declared.call.Call.{Call}
use Rattle.restore.specs.declared.call.Call.TheVariants.{Format, Check, Stretch, Read, Write, Evict, Open, Create, Commit, Abandon, Recover}
use Rattle.restore.specs.Call.{accepted}
use Rattle.restore.specs.Memory.{Memory, zeros, saved_in}
use Rattle.restore.specs.Run.{Step, geometry_in, table_by, finished, memory_with, commits_after}
use Rattle.restore.specs.Strike.{Strike, fourteen, last_recovery, recovered, memory_by, commits_by}
use Rattle.restore.specs.OneItem.{OnTwoNodes}

-- it leads to a table, with the plain memory and the commits finished since the last formatting
pub data History : List ℕ → Memory → ℕ → Type 0 where
  begun : (t : List ℕ) (f : Formatted t) → History t (zeros f.geometry.items) 0
  whole_call :
      {t : List ℕ} {memory : Memory} {commits : ℕ} → History t memory commits → (s : Step)
      → History (table_by t s) (memory_with t s memory) (commits_after t s commits)
  struck_call :
      {t : List ℕ} {memory : Memory} {commits : ℕ} → History t memory commits → (s : Strike t) → accepted (last_recovery s) ≡ true
      → History (recovered s) (memory_by s commits memory) (commits_by s commits)

-- what was last written to item b since the last finished recovery or formatting, one finished call later
abbrev pub written_by : Call → ℕ → Option ℕ → Option ℕ
written_by (Format n m f) b w = none
written_by Check b w = w
written_by (Stretch n) b w = w
written_by (Read n b') b w = w
written_by (Write n b' x) b w = cond (eqb b' b) (some x) w
written_by (Evict n b' place) b w = w
written_by Open b w = w
written_by Create b w = w
written_by Commit b w = w
written_by Abandon b w = w
written_by (Recover lost) b w = none

unfoldable pub last_written : {t : List ℕ} {memory : Memory} {commits : ℕ} → History t memory commits → ℕ → Option ℕ
last_written (begun t f) b = none
last_written (whole_call {t} h s) b = cond (finished t s) (written_by s.call b (last_written h b)) (last_written h b)
last_written (struck_call h s a) b = none

-- the restore of demand 3 after any number of strikes
abbrev pub HistoryDemand : Type 0
HistoryDemand =
    (t : List ℕ) (memory : Memory) (commits : ℕ) (history : History t memory commits) (strike : Strike t) → fourteen strike ≡ false
    → (accepted (last_recovery strike) ≡ true)
    × ((b : ℕ) → b < (geometry_in t).items
    → OnTwoNodes (view (geometry_in t) (recovered strike)) b (saved_in (memory_by strike commits memory) b))
