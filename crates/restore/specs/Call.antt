-- A call as a value, with any arguments, and its plan: what the call answers and stores, of the table at entry and the length of the scratch.
use Rattle.std.specs.Prelude.{ℕ, Bool, true, false, List, ◌≡◌, length}
use Rattle.table.specs.Answers.{Plan, refuse, nothing_left, carry, Meets}
use Rattle.layout.specs.Format.{format_of}
use Rattle.layout.specs.Stretch.{check_of, stretch_of}
use Rattle.calls.specs.Read.{read_of}
use Rattle.calls.specs.Write.{write_of}
use Rattle.homes.specs.Evict.{evict_of}
use Rattle.checkpoints.specs.Open.{open_of}
use Rattle.checkpoints.specs.Create.{create_of}
use Rattle.checkpoints.specs.Commit.{commit_of, abandon_of}
use Rattle.restore.specs.declared.call.Call.{Call}
use Rattle.restore.specs.declared.call.Call.TheVariants.{Format, Check, Stretch, Read, Write, Evict, Open, Create, Commit, Abandon, Recover}
use Rattle.recovery.specs.Recover.{recover_of, scratch_after}
use Rattle.table.specs.declared.answers.Answer.{Answer}

-- only Recover looks at the scratch
unfoldable pub plan_of : List ℕ → ℕ → Call → Plan
plan_of t scratch (Format n m f) = format_of t n m f
plan_of t scratch Check = check_of t
plan_of t scratch (Stretch n) = stretch_of t n
plan_of t scratch (Read n b) = read_of t n b
plan_of t scratch (Write n b x) = write_of t n b x
plan_of t scratch (Evict n b place) = evict_of t n b place
plan_of t scratch Open = open_of t
plan_of t scratch Create = create_of t
plan_of t scratch Commit = commit_of t
plan_of t scratch Abandon = abandon_of t
plan_of t scratch (Recover lost) = recover_of t lost scratch

-- 17 is no refusal
abbrev pub refused : Plan → Bool
refused (refuse r) = true
refused nothing_left = false
refused (carry g x ss) = false

abbrev pub accepted : Plan → Bool
accepted (refuse r) = false
accepted nothing_left = false
accepted (carry g x ss) = true

-- ---- THE CONTRACT of the one function that carries any call out

-- the scratch after a call with this plan: only Recover's changes
abbrev pub scratch_by : Call → Plan → List ℕ → List ℕ
scratch_by (Format n m f) plan s = s
scratch_by Check plan s = s
scratch_by (Stretch n) plan s = s
scratch_by (Read n b) plan s = s
scratch_by (Write n b x) plan s = s
scratch_by (Evict n b place) plan s = s
scratch_by Open plan s = s
scratch_by Create plan s = s
scratch_by Commit plan s = s
scratch_by Abandon plan s = s
scratch_by (Recover lost) plan s = scratch_after plan s

-- THE CONTRACT: table and answer by the call's plan at the limit, and the scratch
pub record CarriedOut (call : Call) (limit : ℕ) (t t' s s' : List ℕ) (r : Answer) : Type 0 where
  pub meets : Meets (plan_of t (length s) call) limit t t' r
  pub scratch : s' ≡ scratch_by call (plan_of t (length s) call) s
