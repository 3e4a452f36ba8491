-- Along a history the plain memory's value of an item is the one last written since the last finished recovery or formatting, else the saved one.
use Prim.Native.Nat.{ℕ, ◌<◌}
use mathlib.Core.Path.{◌≡◌, refl, sym, ap, ◌∙◌}
use mathlib.Core.Bool.{Bool, true, false, not, cond}
use mathlib.Core.List.{List}
use mathlib.Core.Option.{Option, none, some}
use native.Mathlib.Decide.{ℕ_discrete}
use lib.ListN.{length, get_or, set}
use lib.Seq.{get_or-set_same, get_or-set_other}
use borrow.Author.Tests.{eq-eqb, ne_eqb}
use Rattle.counting.proofs.Laws.Tests.{no_both}
use Rattle.table.specs.Answers.{Plan, refuse, nothing_left, carry}
use Rattle.calls.specs.Write.{write_of}
use Rattle.restore.specs.declared.call.Call.{Call}
use Rattle.restore.specs.declared.call.Call.TheVariants.{Format, Check, Stretch, Read, Write, Evict, Open, Create, Commit, Abandon, Recover}
use Rattle.restore.specs.Call.{plan_of, refused}
use Rattle.restore.specs.Memory.{Memory, carried, fed, value_of, saved_in}
use Rattle.restore.specs.Run.{Step, finished, memory_with}
use Rattle.restore.specs.History.{History, begun, whole_call, struck_call, written_by, last_written}
use Rattle.restore.specs.Demand2.{or_else}
use Rattle.restore.proofs.Laws.Good.{Good}
use Rattle.restore.proofs.Laws.GoodStep.{write_inside}
use Rattle.restore.proofs.Laws.GoodCall.{write_something}
use Rattle.restore.proofs.Laws.HistoryTheorem.{history_good}

-- a saved value, once it is also the current one
or_itself : (w : Option ℕ) (x y : ℕ) → x ≡ or_else w y → x ≡ or_else w x
or_itself none x y e = refl
or_itself (some z) x y e = e

module _ (t : List ℕ) (memory : Memory) (commits : ℕ) (good : Good t memory commits) (b : ℕ) (w : Option ℕ) (now : value_of memory b ≡ or_else w (saved_in memory b)) where
  -- a call that was not refused
  written_after :
      (scratch : ℕ) (call : Call) → refused (plan_of t scratch call) ≡ false
      → value_of (carried call memory) b ≡ or_else (written_by call b w) (saved_in (carried call memory) b)
  unfolding plan_of
  written_after scratch (Format n m f) a = refl
  written_after scratch Check a = now
  written_after scratch (Stretch n) a = now
  written_after scratch (Read n c) a = now
  written_after scratch (Write n c x) a = elim (ℕ_discrete c b) [
    | yes e ↦ rw (eq-eqb c b e) (ap (λ i. get_or (set memory.values i x) b 0) e ∙ get_or-set_same memory.values b x 0 (rw e at (go (write_of t n c x) refl a)))
    | no d ↦ rw (ne_eqb c b d) (get_or-set_other memory.values c b x 0 (λ z. d (sym z)) ∙ now)
  ]
    where
      go : (p : Plan) → p ≡ write_of t n c x → refused p ≡ false → c < length memory.values
      go (refuse r) e q = absurd (no_both refl q)
      go nothing_left e q = absurd (write_something t n c x (sym e))
      go (carry g y ss) e q = write_inside t memory commits good n c x (sym e)
  written_after scratch (Evict n c place) a = now
  written_after scratch Open a = now
  written_after scratch Create a = now
  written_after scratch Commit a = or_itself w _ _ now
  written_after scratch Abandon a = now
  written_after scratch (Recover lost) a = refl

  -- any call
  written_step :
      (s : Step)
      → value_of (memory_with t s memory) b ≡ or_else (cond (finished t s) (written_by s.call b w) w) (saved_in (memory_with t s memory) b)
  written_step s = go (refused (plan_of t s.scratch s.call)) refl
    where
      go : (q : Bool) → refused (plan_of t s.scratch s.call) ≡ q
          → value_of (fed s.call q memory) b ≡ or_else (cond (not q) (written_by s.call b w) w) (saved_in (fed s.call q memory) b)
      go true e = now
      go false e = written_after s.scratch s.call e

pub last_written_lem :
    {t : List ℕ} {memory : Memory} {commits : ℕ} (h : History t memory commits) (b : ℕ)
    → value_of memory b ≡ or_else (last_written h b) (saved_in memory b)
unfolding last_written
last_written_lem (begun t f) b = refl
last_written_lem (whole_call {t} {memory} {commits} h s) b = written_step t memory commits (history_good h) b (last_written h b) (last_written_lem h b) s
last_written_lem (struck_call h s a) b = refl
