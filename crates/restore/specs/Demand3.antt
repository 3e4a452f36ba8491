-- DEMAND 3, as one type. Its words stand above the parts that render them.
use Rattle.std.specs.Prelude.{ℕ, ◌<◌, ◌≡◌, true, false, cond, List, [], ◌∷◌, ◌++◌, length}
use Rattle.table.specs.declared.geometry.Geometry.{Geometry}
use Rattle.table.specs.View.{view, live}
use Rattle.layout.specs.Formatted.{Formatted}
use Rattle.restore.specs.Call.{accepted}
use Rattle.restore.specs.Memory.{Memory, zeros, saved_in}
use Rattle.restore.specs.Run.{Step, geometry_in, finished, run, to_point, commits_from, memory_from}
use Rattle.restore.specs.Strike.{Strike, fourteen, last_recovery, recovered, surviving, commit_counts, memory_by}
use Rattle.restore.specs.OneItem.{OnTwoNodes, HasValue}

-- ---- the two runs

module _ (t₀ : List ℕ) (formatted : Formatted t₀) (calls : List Step) (strike : Strike (run t₀ calls)) where
  -- the table as the whole calls left it, and its geometry
  abbrev pub before : List ℕ
  before = run t₀ calls

  abbrev pub geometry : Geometry
  geometry = geometry_in before

  -- "the commits finished since the last formatting"; "the formatted table at the start counts as a finished formatting"
  abbrev pub commits : ℕ
  commits = commits_from 0 t₀ calls

  -- the plain memory: "fed the list, then a cut commit exactly when 3 finishes it, then the recovery"
  abbrev pub memory : Memory
  memory = memory_by strike commits (memory_from (zeros formatted.geometry.items) t₀ calls)

  -- "The undisturbed one stops at its last finished commit or formatting."
  -- "A cut commit is finished in the undisturbed run exactly when a surviving node of the cut table carries the new point's number, else left out."
  abbrev pub undisturbed_calls : List Step
  undisturbed_calls = cond (commit_counts strike commits) (calls ++ (strike.cut.next ∷ [])) (to_point t₀ calls)

  abbrev pub undisturbed : List ℕ
  undisturbed = run t₀ undisturbed_calls

  pub record Restored : Type 0 where
    -- "recovery is carried out"
    pub carried_out : accepted (last_recovery strike) ≡ true
    -- "and leaves each item on exactly two distinct live nodes, .. which document 01's plain memory has saved"
    pub restored : (b : ℕ) → b < geometry.items → OnTwoNodes (view geometry (recovered strike)) b (saved_in memory b)
    -- the live nodes are then the surviving ones, "live in the cut table and not hit"
    pub live_nodes : (n : ℕ) → live (view geometry (recovered strike)) n ≡ live (surviving strike) n
    -- "at the undisturbed run's value"
    pub undisturbed_value : (b : ℕ) → b < geometry.items → HasValue (view geometry undisturbed) b (saved_in memory b)
    -- "A cut commit is finished in the undisturbed run": it is not refused there
    pub commit_finished : commit_counts strike commits ≡ true → finished before strike.cut.next ≡ true
    -- all of them are of one geometry, and the plain memory of its items
    pub struck_geometry : geometry_in (recovered strike) ≡ geometry
    pub undisturbed_geometry : geometry_in undisturbed ≡ geometry
    pub memory_items : length memory.saved ≡ geometry.items

-- ---- THE DEMAND

abbrev pub Demand3 : Type 0
Demand3 =
    -- "on one formatted table"
    (t₀ : List ℕ) (formatted : Formatted t₀)
    -- "For every list of whole calls (format, check, stretch, read, write, evict, open, create, commit, abandon, recover; refused ones included)"
    (calls : List Step)
    -- "In the struck one any next call but a formatting or a recovery is cut after whatever number of its stores; the words of whichever one live
    -- node, or of none, become anything; recovery naming that node, or none where none was hit, with scratch enough follows, begun again with the
    -- same name wherever and however often it is broken off, no second node lost."
    (strike : Strike (run t₀ calls))
    -- "Unless refusal 14, as it stands for the edition, applies,"
    → fourteen strike ≡ false
    -- "recovery is carried out and leaves each item on exactly two distinct live nodes, at the undisturbed run's value, which document 01's plain
    -- memory has saved."
    → Restored t₀ formatted calls strike
