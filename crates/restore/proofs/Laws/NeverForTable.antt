-- Along a history no call but Format is refused with 1, 2, 3 or 20: on a table that passes its checks every refusal of
-- a call is one of its own.
use Rattle.std.specs.Prelude.{Err, Ok, Option}
use Prim.Native.Nat.{ℕ, ◌-◌, ◌^◌, ◌<◌}
use mathlib.Core.Path.{◌≡◌, refl, ap}
use mathlib.Core.Logic.{◌≢◌}
use mathlib.Core.Bool.{Bool, true, false, not, cond}
use mathlib.Core.List.{List, []}
use native.Mathlib.Omega.{arith}
use lib.Dec.{eqb, leb, ltb}
use Rattle.counting.proofs.Laws.Tests.{no_both}
use Rattle.table.specs.declared.geometry.Geometry.{Geometry}
use Rattle.table.specs.declared.answers.Refusal.{Refusal}
use Rattle.table.specs.declared.answers.Refusal.TheVariants.{NoNode, NoHome}
use Rattle.table.specs.Words.{phase_of, number_of, invalid}
use Rattle.table.specs.Stores.{Store}
use Rattle.table.specs.View.{View, view}
use Rattle.table.specs.Answers.{Plan, refuse, nothing_left, carry, refusal_number}
use Rattle.entries.specs.Check.{fault_of}
use Rattle.layout.specs.Stretch.{checked_plan, check_of, stretch_checked, stretch_of}
use Rattle.homes.specs.declared.places.Place.{Place}
use Rattle.homes.specs.Admission.{Admission, plan_admitted, plan_checked, plan_by, admission_of, frame_full, frame_admission}
use Rattle.homes.specs.Places.{code_in}
use Rattle.homes.specs.Home.{no_home}
use Rattle.homes.specs.Evict.{dropped, place_admission, evict_admission, evict_stores}
use Rattle.entries.specs.Dirty.{none_dirty, dirty_item}
use Rattle.checkpoints.specs.Checkpoint.{common_mark, is_open, open_admission}
use Rattle.checkpoints.specs.Open.{start_admission, open_stores}
use Rattle.checkpoints.specs.Create.{create_stores, no_partner, create_plan}
use Rattle.checkpoints.specs.Commit.{created_admission, commit_admission, commit_stores, abandon_stores}
use Rattle.calls.specs.Read.{read_admission, read_value, read_stores}
use Rattle.calls.specs.Write.{write_admission, write_stores}
use Rattle.restore.specs.declared.call.Call.{Call}
use Rattle.restore.specs.declared.call.Call.TheVariants.{Format, Check, Stretch, Read, Write, Evict, Open, Create, Commit, Abandon, Recover}
use Rattle.survivors.specs.Survivors.{survivors, lost_outside, too_few}
use Rattle.recovery.specs.Sides.{items_fit}
use Rattle.recovery.specs.Recover.{scratch_words, survivors_formed, recover_admission, recover_checked, recover_of}
use Rattle.restore.specs.Call.{plan_of}
use Rattle.restore.specs.Memory.{Memory}
use Rattle.restore.specs.Run.{geometry_in, is_format}
use Rattle.restore.proofs.Laws.Good.{Good}
use Rattle.recovery.proofs.Laws.ReadyAccepts.{ready_formed}
use Rattle.restore.proofs.Laws.RecoverGood.{good_sizes, good_ready}

-- a refusal of the call's own
abbrev OwnRefusal : Refusal → Type 0
OwnRefusal r = (3 < refusal_number r) × (refusal_number r ≢ 20)

record Own (a : Admission) : Type 0 where
  own : (r : Refusal) → a ≡ Err r → OwnRefusal r

record OwnPlan (p : Plan) : Type 0 where
  own : (r : Refusal) → p ≡ refuse r → OwnRefusal r

-- ---- admissions

own_admitted : Own (Ok tt)
own_admitted = record { own = λ r e. let z : ◌≡◌ {A = ℕ} 0 1 = cc in absurd (omega arith) }

own_turned : (x : Refusal) → OwnRefusal x → Own (Err x)
own_turned x h = record { own = λ r e. let q : x ≡ r = cc in rw (← q) h }

own_if : (q : Bool) (a b : Admission) → Own a → Own b → Own (cond q a b)
own_if true a b x y = x
own_if false a b x y = y

-- a refusal, if it holds; else what comes after it
own_next : (q : Bool) (x : Refusal) (b : Admission) → OwnRefusal x → Own b → Own (cond q (Err x) b)
own_next q x b h y = own_if q (Err x) b (own_turned x h) y

node_own : (g : Geometry) (v : View) (n b : ℕ) → Own (admission_of g v n b)
unfolding admission_of
node_own g v n b =
    own_next (leb g.nodes n) _ _ (omega arith)
    (own_next (leb g.items b) _ _ (omega arith)
    (own_next (eqb (v.mark n) 0) _ _ (omega arith)
    (own_next (eqb (phase_of (v.mark n)) 1) _ _ (omega arith) own_admitted)))

frame_own : (g : Geometry) (v : View) (n b : ℕ) (needed : Bool) (a : Admission) → Own a → Own (frame_admission g v n b needed a)
unfolding frame_admission
frame_own g v n b needed (Err x) h = h
frame_own g v n b needed (Ok _) h = own_next (frame_full g v n b needed) _ _ (omega arith) own_admitted

place_own : (g : Geometry) (v : View) (place : Place) (n b : ℕ) (a : Admission) → Own a → Own (place_admission g v place n b a)
unfolding place_admission
place_own g v place n b (Err x) h = h
place_own g v place n b (Ok _) h =
    own_next (eqb (code_in place (v.entry n b)) invalid) _ _ (omega arith)
    (own_if (dropped place (v.entry n b)) _ _ own_admitted (own_next (no_home g v place n b) _ _ (omega arith) own_admitted))

open_own : (g : Geometry) (v : View) → Own (open_admission g v)
unfolding open_admission
open_own g v = own_if (is_open g v) _ _ own_admitted (own_turned _ (omega arith))

start_own : (g : Geometry) (v : View) → Own (start_admission g v)
unfolding start_admission
start_own g v = own_next (is_open g v) _ _ (omega arith) (own_next (eqb (number_of (common_mark g v)) (2 ^ 32 - 1)) _ _ (omega arith) own_admitted)

commit_own : (g : Geometry) (v : View) → Own (commit_admission g v)
unfolding created_admission
commit_own g v = go (open_admission g v) (open_own g v)
  where
    go : (a : Admission) → Own a → Own (created_admission g v a)
    go (Err x) h = h
    go (Ok _) h = own_if (none_dirty g v) _ _ own_admitted (own_turned _ (omega arith))

recover_own : (g : Geometry) (w : View) (lost : Option ℕ) (scratch : ℕ) → survivors_formed g w ≡ true → Own (recover_admission g w lost scratch)
unfolding recover_admission
recover_own g w lost scratch formed =
    own_next (lost_outside g lost) _ _ (omega arith)
    (own_next (ltb scratch (scratch_words g)) _ _ (omega arith)
    (rw formed
    (own_next (too_few g w) _ _ (omega arith)
    (own_next (not (items_fit g w)) _ _ (omega arith) own_admitted))))

-- ---- plans

own_carry : {g : Geometry} {x : ℕ} {ss : List Store} → OwnPlan (carry g x ss)
own_carry = record { own = λ r e. let z : ◌≡◌ {A = ℕ} 0 1 = cc in absurd (omega arith) }

own_plan : (a : Admission) (p : Plan) → Own a → OwnPlan p → OwnPlan (plan_admitted a p)
unfolding plan_admitted
own_plan (Err x) p h k = record { own = λ r e. let q : x ≡ r = cc in h.own r (ap Err q) }
own_plan (Ok _) p h k = k

create_own : (g : Geometry) (v : View) → OwnPlan (create_plan g v)
unfolding create_plan
create_own g v = go (none_dirty g v) (no_partner g v (dirty_item g v))
  where
    go : (p q : Bool) → OwnPlan (cond p nothing_left (cond q (refuse NoHome) (carry g 0 (create_stores g v))))
    go true q = record { own = λ r e. let z : ◌≡◌ {A = ℕ} 0 1 = cc in absurd (omega arith) }
    go false true = record { own = λ r e. let q : NoHome ≡ r = cc in rw (← q) (omega arith) }
    go false false = own_carry

-- ---- on a table that passes its checks

module _ (t : List ℕ) (g : Geometry) (passed : fault_of t ≡ Ok g) where
  own_by :
      (admits : Geometry → View → Admission) (acts : Geometry → View → Plan) → Own (admits g (view g t)) → OwnPlan (acts g (view g t))
      → OwnPlan (plan_by admits acts t)
  unfolding plan_by plan_checked
  own_by admits acts a p = rw passed (own_plan (admits g (view g t)) (acts g (view g t)) a p)

module _ (t : List ℕ) (memory : Memory) (commits : ℕ) (good : Good t memory commits) where
  abbrev G : Geometry
  G = geometry_in t

  passed : fault_of t ≡ Ok G
  passed = good.serves.passed

  stretch_own : (n : ℕ) → OwnPlan (stretch_of t n)
  unfolding stretch_checked
  stretch_own n = rw (good_sizes t memory commits good) (go (leb G.nodes n))
    where
      go : (q : Bool) → OwnPlan (cond q (refuse NoNode) (carry G 0 []))
      go true = record { own = λ r e. let q : NoNode ≡ r = cc in rw (← q) (omega arith) }
      go false = own_carry

  check_own : OwnPlan (check_of t)
  unfolding checked_plan
  check_own = rw passed own_carry

  recovery_own : (lost : Option ℕ) (scratch : ℕ) → OwnPlan (recover_of t lost scratch)
  unfolding recover_of recover_checked
  recovery_own lost scratch =
      rw (good_sizes t memory commits good)
      (own_plan (recover_admission G (survivors lost (view G t)) lost scratch) _
      (recover_own G (survivors lost (view G t)) lost scratch (ready_formed G _ commits _ (good_ready t memory commits good lost))) own_carry)

  call_own : (scratch : ℕ) (call : Call) → is_format call ≡ false → OwnPlan (plan_of t scratch call)
  unfolding plan_of
  call_own scratch (Format n m f) h = absurd (no_both refl h)
  call_own scratch Check h = check_own
  call_own scratch (Stretch n) h = stretch_own n
  call_own scratch (Read n b) h =
      own_by t G passed (λ g v. read_admission g v n b) (λ g v. carry g (read_value g v n b) (read_stores g v n b))
      (frame_own G (view G t) n b _ _ (node_own G (view G t) n b)) own_carry
  call_own scratch (Write n b x) h =
      own_by t G passed (λ g v. write_admission g v n b) (λ g v. carry g 0 (write_stores g v n b x))
      (frame_own G (view G t) n b _ _ (node_own G (view G t) n b)) own_carry
  call_own scratch (Evict n b place) h =
      own_by t G passed (λ g v. evict_admission g v place n b) (λ g v. carry g 0 (evict_stores g v place n b))
      (place_own G (view G t) place n b _ (node_own G (view G t) n b)) own_carry
  call_own scratch Open h = own_by t G passed start_admission (λ g v. carry g 0 (open_stores g v)) (start_own G (view G t)) own_carry
  call_own scratch Create h = own_by t G passed open_admission create_plan (open_own G (view G t)) (create_own G (view G t))
  call_own scratch Commit h = own_by t G passed commit_admission (λ g v. carry g 0 (commit_stores g v)) (commit_own G (view G t)) own_carry
  call_own scratch Abandon h = own_by t G passed open_admission (λ g v. carry g 0 (abandon_stores g v)) (open_own G (view G t)) own_carry
  call_own scratch (Recover lost) h = recovery_own lost scratch

  -- THE LAW
  pub never_for_table :
      (scratch : ℕ) (call : Call) → is_format call ≡ false → (r : Refusal) → plan_of t scratch call ≡ refuse r
      → OwnRefusal r
  never_for_table scratch call h = (call_own scratch call h).own
