-- A strike: "the cut call at any limit; then the hit node's mark and entries hold anything; then recoveries at any limits, none or many; then a whole one".
use Rattle.std.specs.Prelude.{ℕ, ◌+◌, ◌≤◌, ◌≡◌, Bool, true, false, cond, ◌&&◌, ◌||◌, List, [], ◌∷◌, eqb, leb, ltb, length, get_or, None, Option, Some}
use Rattle.table.specs.declared.geometry.Geometry.{Geometry}
use Rattle.table.specs.Geometry.{mark_at, entry_at}
use Rattle.table.specs.View.{View, view, live}
use Rattle.table.specs.Answers.{Plan, table_of}
use Rattle.restore.specs.declared.call.Call.{Call}
use Rattle.restore.specs.declared.call.Call.TheVariants.{Format, Check, Stretch, Read, Write, Evict, Open, Create, Commit, Abandon, Recover}
use Rattle.survivors.specs.Survivors.{survivors, carries, too_few}
use Rattle.recovery.specs.Recover.{scratch_words, recover_of}
use Rattle.restore.specs.Memory.{Memory, carried}
use Rattle.restore.specs.Run.{Step, geometry_in, whole_table, plan_at}

-- ---- the cut: "any next call but a formatting or a recovery is cut after whatever number of its stores"

abbrev pub can_be_cut : Call → Bool
can_be_cut (Format n m f) = false
can_be_cut Check = true
can_be_cut (Stretch n) = true
can_be_cut (Read n b) = true
can_be_cut (Write n b x) = true
can_be_cut (Evict n b place) = true
can_be_cut Open = true
can_be_cut Create = true
can_be_cut Commit = true
can_be_cut Abandon = true
can_be_cut (Recover lost) = false

abbrev pub is_commit : Call → Bool
is_commit (Format n m f) = false
is_commit Check = false
is_commit (Stretch n) = false
is_commit (Read n b) = false
is_commit (Write n b x) = false
is_commit (Evict n b place) = false
is_commit Open = false
is_commit Create = false
is_commit Commit = true
is_commit Abandon = false
is_commit (Recover lost) = false

-- the next call, with any arguments, refused or not, and any limit, also past its last store
pub record Cut : Type 0 where
  pub next : Step
  pub cuttable : can_be_cut next.call ≡ true
  pub limit : ℕ

abbrev pub cut_table : List ℕ → Cut → List ℕ
cut_table t c = table_of (plan_at t c.next) c.limit t

-- ---- the hit: "the words of whichever one live node, or of none, become anything"

-- "a live node, or none"
abbrev pub live_or_none : View → Option ℕ → Bool
live_or_none v None = true
live_or_none v (Some n) = live v n

-- word i of a table is one of the words of the node's entries
abbrev pub of_entries : Geometry → ℕ → ℕ → Bool
of_entries g n i = leb (entry_at g n 0) i && ltb i (entry_at g (n + 1) 0)

-- or its mark
abbrev pub of_node : Geometry → ℕ → ℕ → Bool
of_node g n i = eqb i (mark_at n) || of_entries g n i

abbrev pub of_lost : Geometry → Option ℕ → ℕ → Bool
of_lost g None i = false
of_lost g (Some n) i = of_node g n i

-- every other word stays, past the table's words too
pub record Hit (g : Geometry) (lost : Option ℕ) (t t' : List ℕ) : Type 0 where
  pub one : live_or_none (view g t) lost ≡ true
  pub size : length t' ≡ length t
  pub rest : (i : ℕ) → of_lost g lost i ≡ false → get_or t' i 0 ≡ get_or t i 0

-- ---- the recoveries: "begun again with the same name wherever and however often it is broken off"

-- one that is broken off: any limit, and scratch enough, which is so many words
pub record Attempt (least : ℕ) : Type 0 where
  pub limit : ℕ
  pub scratch : ℕ
  pub enough : least ≤ scratch

unfoldable pub broken_off : {least : ℕ} → Option ℕ → List (Attempt least) → List ℕ → List ℕ
broken_off lost [] t = t
broken_off lost (a ∷ rest) t = broken_off lost rest (table_of (recover_of t lost a.scratch) a.limit t)

-- ---- the strike on a table t that whole calls have left

pub record Strike (t : List ℕ) : Type 0 where
  pub cut : Cut
  -- the node that is hit, and that every recovery names; or none
  pub lost : Option ℕ
  -- the table after the hit
  pub struck : List ℕ
  pub hit : Hit (geometry_in t) lost (cut_table t cut) struck
  -- the recoveries that are broken off, none or many
  pub broken : List (Attempt (scratch_words (geometry_in t)))
  -- the scratch of the whole one
  pub scratch : ℕ
  pub enough : scratch_words (geometry_in t) ≤ scratch

module _ {t : List ℕ} (s : Strike t) where
  -- "refusal 14, as it stands for the edition": Recover's own test, on the struck table
  abbrev pub fourteen : Bool
  fourteen = too_few (geometry_in t) (survivors s.lost (view (geometry_in t) s.struck))

  -- before the whole recovery, its plan, and after it
  abbrev pub attempted : List ℕ
  attempted = broken_off s.lost s.broken s.struck

  abbrev pub last_recovery : Plan
  last_recovery = recover_of attempted s.lost s.scratch

  abbrev pub recovered : List ℕ
  recovered = whole_table last_recovery attempted

  -- "Surviving nodes are live in the cut table and not hit": the live nodes of this view
  abbrev pub surviving : View
  surviving = survivors s.lost (view (geometry_in t) (cut_table t s.cut))

  -- "A cut commit is finished .. exactly when a surviving node of the cut table carries the new point's number", which is
  -- "1 plus the commits finished since the last formatting"
  abbrev pub commit_counts : ℕ → Bool
  commit_counts commits = is_commit s.cut.next.call && carries (geometry_in t) (commits + 1) surviving

  -- "fed the list, then a cut commit exactly when 3 finishes it, then the recovery"
  abbrev pub memory_by : ℕ → Memory → Memory
  memory_by commits memory = carried (Recover s.lost) (cond (commit_counts commits) (carried Commit memory) memory)

  abbrev pub commits_by : ℕ → ℕ
  commits_by commits = cond (commit_counts commits) (commits + 1) commits
