-- A SAVE GOES THROUGH, as one type: while at most one node is dead, Open, then Create until it answers 17, then Commit
-- are carried out, and every item is then clean at its written value. It rests on this: "Create is never refused with
-- 11 while at most one node is dead" (K2).
use Rattle.std.specs.Prelude.{ℕ, ◌-◌, ◌^◌, ◌≤◌, ◌<◌, ◌≡◌, true, false, List, replicate}
use Rattle.table.specs.declared.geometry.Geometry.{Geometry}
use Rattle.table.specs.View.{view}
use Rattle.table.specs.Answers.{nothing_left}
use Rattle.entries.specs.Tally.{counts_of, is_clean}
use Rattle.checkpoints.specs.Checkpoint.{is_open}
use Rattle.checkpoints.specs.CreateRoom.{dead_nodes, dirty_items}
use Rattle.restore.specs.declared.call.Call.{Call}
use Rattle.restore.specs.declared.call.Call.TheVariants.{Open, Create, Commit}
use Rattle.restore.specs.Call.{accepted}
use Rattle.restore.specs.Memory.{Memory, value_of}
use Rattle.restore.specs.Run.{Step, geometry_in, plan_at, table_by, run}
use Rattle.restore.specs.OneItem.{HasValue}
use Rattle.restore.specs.History.{History}

-- ---- the calls

-- without scratch, at which none of them looks
abbrev pub asked : Call → Step
asked call = record { call = call; scratch = 0 }

-- the table after so many creates
abbrev pub created_by : ℕ → List ℕ → List ℕ
created_by k t = run t (replicate k (asked Create))

-- and after the commit
abbrev pub saved_by : ℕ → List ℕ → List ℕ
saved_by d t = table_by (created_by d t) (asked Commit)

-- ---- from a table with an open checkpoint, in d creates

pub record GoesThrough (g : Geometry) (t : List ℕ) (memory : Memory) (d : ℕ) : Type 0 where
  -- each of the d creates is carried out
  pub creates : (k : ℕ) → k < d → accepted (plan_at (created_by k t) (asked Create)) ≡ true
  -- "Answer 17, no stores, if none is left."
  pub none_left : plan_at (created_by d t) (asked Create) ≡ nothing_left
  -- the commit is carried out
  pub commits : accepted (plan_at (created_by d t) (asked Commit)) ≡ true
  -- every item is then clean
  pub clean : (b : ℕ) → b < g.items → is_clean (counts_of (view g (saved_by d t)) b g.nodes) ≡ true
  -- at its written value, the plain memory's
  pub written : (b : ℕ) → b < g.items → HasValue (view g (saved_by d t)) b (value_of memory b)
  -- the geometry is the table's as before
  pub geometry : geometry_in (saved_by d t) ≡ g

-- ---- THE CLAIM, along every history, while at most one node is dead

pub record SaveDemand : Type 0 where
  -- a checkpoint that is open goes through, in as many creates as items are dirty
  pub opened :
      {t : List ℕ} {memory : Memory} {commits : ℕ} → History t memory commits
      → dead_nodes (geometry_in t) (view (geometry_in t) t) ≤ 1
      → is_open (geometry_in t) (view (geometry_in t) t) ≡ true
      → GoesThrough (geometry_in t) t memory (dirty_items (geometry_in t) (view (geometry_in t) t))
  -- where none is open, Open is carried out, unless the points' numbers are used up ("13 number is 2^32 − 1"), and that
  -- checkpoint goes through, in as many creates as items were dirty before it
  pub not_opened :
      {t : List ℕ} {memory : Memory} {commits : ℕ} → History t memory commits
      → dead_nodes (geometry_in t) (view (geometry_in t) t) ≤ 1
      → is_open (geometry_in t) (view (geometry_in t) t) ≡ false → commits < 2 ^ 32 - 1
      → (accepted (plan_at t (asked Open)) ≡ true)
      × GoesThrough (geometry_in t) (table_by t (asked Open)) memory (dirty_items (geometry_in t) (view (geometry_in t) t))
