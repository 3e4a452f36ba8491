-- A REHEARSAL: demand 3, carried out by the code on a lent table. What it is given, as words; the tables that it goes through; what makes it a strike.
use Rattle.std.specs.Prelude.{ℕ, zero, suc, ◌+◌, ◌-◌, ◌*◌, ◌/◌, ◌≤◌, min, ◌≡◌, true, cond, Bool, false, List, [], ◌∷◌, ◌++◌, eqb, ltb, length, get_or, set, Err, None, Ok, Option, Result, Some}
use Rattle.std.proofs.Common.{arith}
use Rattle.table.specs.declared.geometry.Geometry.{Geometry}
use Rattle.table.specs.Geometry.{entry_words, mark_at, entry_at}
use Rattle.table.specs.View.{view}
use Rattle.table.specs.Answers.{Plan, table_of, answer_of}
use Rattle.entries.specs.Check.{sizes_of}
use Rattle.layout.specs.Formatted.{Formatted}
use Rattle.restore.specs.declared.call.Call.{Call}
use Rattle.restore.specs.declared.call.Call.TheVariants.{Check}
use Rattle.restore.specs.Operations.{call_by}
use Rattle.recovery.specs.Recover.{scratch_words, recover_of, scratch_after}
use Rattle.restore.specs.Call.{scratch_by}
use Rattle.restore.specs.Run.{Step, geometry_in, whole_table, plan_at, table_by, run, store_count}
use Rattle.restore.specs.Strike.{can_be_cut, live_or_none, Attempt, broken_off, Hit, Strike}
use Rattle.table.specs.declared.answers.Answer.{Answer}
use Rattle.table.specs.declared.answers.Answer.TheVariants.{Done}
use Rattle.survivors.specs.Survivors.{survivors, too_few}
use Rattle.restore.specs.Strike as strikes
use Rattle.restore.specs.Demand3.{Restored}
use Rattle.table.specs.declared.answers.Refusal.{Refusal}

-- ---- the list of calls: five words a call, its operation, three arguments and a flag

-- an operation that is not known is a check
abbrev pub call_or_check : Option Call → Call
call_or_check (Some call) = call
call_or_check None = Check

abbrev pub call_count : List ℕ → ℕ
call_count words = length words / 5

-- call i of the list; past its end a check
unfoldable pub call_at : List ℕ → ℕ → Call
call_at words i =
    cond (ltb i (call_count words))
    (call_or_check
    (call_by (get_or words (5 * i) 0) (get_or words (5 * i + 1) 0) (get_or words (5 * i + 2) 0) (get_or words (5 * i + 3) 0) (get_or words (5 * i + 4) 0)))
    Check

-- the first k calls of the list; each gets the same scratch
unfoldable pub steps_to : List ℕ → ℕ → ℕ → List Step
steps_to words scratch zero = []
steps_to words scratch (suc k) = steps_to words scratch k ++ (record { call = call_at words k; scratch = scratch } ∷ [])

-- ---- the hit: word i of the given ones becomes word i of the node, its mark and then its entries' words, as far as both go

unfoldable pub node_word_at : Geometry → ℕ → ℕ → ℕ
node_word_at g n i = cond (eqb i 0) (mark_at n) (entry_at g n 0 + (i - 1))

abbrev pub node_words : Geometry → ℕ
node_words g = 1 + entry_words * g.items

-- the first k of them
unfoldable pub put_to : Geometry → ℕ → List ℕ → ℕ → List ℕ → List ℕ
put_to g n words zero t = t
put_to g n words (suc k) t = set (put_to g n words k t) (node_word_at g n k) (get_or words k 0)

-- nothing, if the node is not one of the table's
unfoldable pub hit_node : Geometry → ℕ → List ℕ → List ℕ → List ℕ
hit_node g n words t = cond (ltb n g.nodes) (put_to g n words (min (length words) (node_words g)) t) t

unfoldable pub hit_sized : Result Geometry Refusal → ℕ → List ℕ → List ℕ → List ℕ
hit_sized (Err r) n words t = t
hit_sized (Ok g) n words t = hit_node g n words t

unfoldable pub hit_by : Option ℕ → List ℕ → List ℕ → List ℕ
hit_by None words t = t
hit_by (Some n) words t = hit_sized (sizes_of t) n words t

-- ---- the recoveries, broken off at the given limits: each gets the same scratch

unfoldable pub attempts_at : {least : ℕ} (scratch : ℕ) → least ≤ scratch → List ℕ → List (Attempt least)
attempts_at scratch enough [] = []
attempts_at scratch enough (limit ∷ limits) = record { limit = limit; scratch = scratch; enough = enough } ∷ attempts_at scratch enough limits

-- any scratch
abbrev pub broken_at : Option ℕ → ℕ → List ℕ → List ℕ → List ℕ
broken_at lost scratch limits t = broken_off lost (attempts_at {least = 0} scratch (omega arith) limits) t

-- ---- the scratch: "Every call's contract gives its answer and each word of table and scratch"

-- after whole calls, each on the table as the last one left it
unfoldable pub scratch_run : List ℕ → List Step → List ℕ → List ℕ
scratch_run t [] s = s
scratch_run t (x ∷ xs) s = scratch_run (table_by t x) xs (scratch_by x.call (plan_at t x) s)

-- after recoveries that are broken off: "answer, value and scratch are the whole call's"
unfoldable pub scratch_broken : {least : ℕ} → Option ℕ → List (Attempt least) → List ℕ → List ℕ → List ℕ
scratch_broken lost [] t s = s
scratch_broken lost (a ∷ rest) t s =
    let plan = recover_of t lost a.scratch in
    scratch_broken lost rest (table_of plan a.limit t) (scratch_after plan s)

abbrev pub scratch_broken_at : Option ℕ → ℕ → List ℕ → List ℕ → List ℕ → List ℕ
scratch_broken_at lost scratch limits t s = scratch_broken lost (attempts_at {least = 0} scratch (omega arith) limits) t s

-- ---- the rehearsal

-- what it is given besides the table
pub record Script : Type 0 where
  -- the words of the whole calls
  pub calls : List ℕ
  -- the call that is cut, and its limit
  pub call : Call
  pub limit : ℕ
  -- the node that is hit, and that every recovery names, or none; and its words then
  pub lost : Option ℕ
  pub words : List ℕ
  -- the limits of the recoveries that are broken off
  pub limits : List ℕ
  -- the length of the scratch
  pub scratch : ℕ

module _ (t₀ : List ℕ) (p : Script) where
  -- the whole calls, and the call that is cut
  abbrev pub whole_calls : List Step
  whole_calls = steps_to p.calls p.scratch (call_count p.calls)

  abbrev pub next : Step
  next = record { call = p.call; scratch = p.scratch }

  -- the tables, one after the other
  abbrev pub before : List ℕ
  before = run t₀ whole_calls

  abbrev pub cut : List ℕ
  cut = table_of (plan_at before next) p.limit before

  abbrev pub struck : List ℕ
  struck = hit_by p.lost p.words cut

  abbrev pub attempted : List ℕ
  attempted = broken_at p.lost p.scratch p.limits struck

  abbrev pub last_recovery : Plan
  last_recovery = recover_of attempted p.lost p.scratch

  abbrev pub recovered : List ℕ
  recovered = whole_table last_recovery attempted

  -- the scratch, one call after the other
  abbrev pub scratch_left : List ℕ → List ℕ
  scratch_left s =
      let ran = scratch_run t₀ whole_calls s in
      let cut_off = scratch_by p.call (plan_at before next) ran in
      scratch_after last_recovery (scratch_broken_at p.lost p.scratch p.limits struck cut_off)

  -- what makes it a strike on a formatted table
  pub record Demanded : Type 0 where
    pub formatted : Formatted t₀
    pub cuttable : can_be_cut p.call ≡ true
    pub one : live_or_none (view (geometry_in before) cut) p.lost ≡ true
    pub enough : scratch_words (geometry_in before) ≤ p.scratch

-- ---- THE CONTRACT: demand 3, of the strike that is made

-- the strike, of what was lent, where the words put on the lost node are a hit
module _ (t₀ : List ℕ) (p : Script) (d : Demanded t₀ p) (hit : Hit (geometry_in (before t₀ p)) p.lost (cut t₀ p) (struck t₀ p)) where
  abbrev pub strike : Strike (run t₀ (whole_calls t₀ p))
  strike = record {
    cut = record { next = next t₀ p; cuttable = d.cuttable; limit = p.limit };
    lost = p.lost;
    struck = struck t₀ p;
    hit = hit;
    broken = attempts_at p.scratch d.enough p.limits;
    scratch = p.scratch;
    enough = d.enough;
  }

module _ (t₀ : List ℕ) (p : Script) where
  -- "refusal 14, as it stands for the edition": Recover's own test, on the struck table, as `fourteen` has it of the strike
  abbrev pub too_few_left : Bool
  too_few_left = too_few (geometry_in (before t₀ p)) (survivors p.lost (view (geometry_in (before t₀ p)) (struck t₀ p)))

  -- the demand: what was lent makes a strike, the table and the answer are those of its whole recovery, and it restores
  pub record Restores (d : Demanded t₀ p) (t' : List ℕ) (r : Answer) : Type 0 where
    pub hit : Hit (geometry_in (before t₀ p)) p.lost (cut t₀ p) (struck t₀ p)
    pub table : t' ≡ strikes.recovered (strike t₀ p d hit)
    pub answer : r ≡ Done 0 (store_count (strikes.last_recovery (strike t₀ p d hit)))
    pub restored : Restored t₀ d.formatted (whole_calls t₀ p) (strike t₀ p d hit)

-- the table and the answer are those of the last recovery, for any script, table and scratch, and the scratch is what
-- the calls leave of it one after the other; and the demand, "Unless refusal 14 .. applies"
pub record Rehearsed (p : Script) (t₀ t' s s' : List ℕ) (r : Answer) : Type 0 where
  pub table : t' ≡ recovered t₀ p
  pub scratch : s' ≡ scratch_left t₀ p s
  pub answer : r ≡ answer_of (last_recovery t₀ p) (store_count (last_recovery t₀ p))
  pub demand : (d : Demanded t₀ p) → too_few_left t₀ p ≡ false → Restores t₀ p d t' r
