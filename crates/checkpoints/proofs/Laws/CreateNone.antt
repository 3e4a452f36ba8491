-- "Answer 17, no stores, if none is left": Create gives it exactly if the table passes, a checkpoint is open and no item is dirty.
use Rattle.std.specs.Prelude.{Err, Ok, Result}
use Prim.Native.Nat.{ℕ, ◌<◌}
use mathlib.Core.Path.{◌≡◌, refl, sym, ◌∙◌}
use mathlib.Core.Bool.{Bool, true, false, cond, not}
use mathlib.Core.List.{List}
use native.Mathlib.Omega.{arith}
use lib.Dec.{ltb}
use borrow.Author.Tests.{ltb-false, le-ltb}
use Rattle.counting.proofs.Laws.First.{first_least, first_none}
use Rattle.table.specs.declared.geometry.Geometry.{Geometry}
use Rattle.table.specs.declared.answers.Refusal.{Refusal}
use Rattle.table.specs.declared.answers.Refusal.TheVariants.{NoHome, NoCheckpoint}
use Rattle.table.specs.View.{View, view}
use Rattle.table.specs.Answers.{refuse, nothing_left, carry}
use Rattle.entries.specs.Check.{fault_of}
use Rattle.homes.proofs.Laws.Admission.{asked}
use Rattle.homes.specs.Admission.{Admission, plan_admitted, plan_checked, plan_by}
use Rattle.homes.proofs.Laws.Plans.{plan_admitted_lem}
use Rattle.entries.specs.Dirty.{dirty, dirty_item}
use Rattle.checkpoints.specs.Checkpoint.{is_open, open_admission}
use Rattle.checkpoints.specs.Create.{create_stores, no_partner, create_plan, create_of}

pub record NoneLeft (t : List ℕ) : Type 0 where
  pub geometry : Geometry
  pub passed : fault_of t ≡ Ok geometry
  pub opened : is_open geometry (view geometry t) ≡ true
  pub clean : (b : ℕ) → b < geometry.items → dirty geometry (view geometry t) b ≡ false

-- ---- if

all_clean : (g : Geometry) (v : View) → ((b : ℕ) → b < g.items → dirty g v b ≡ false) → create_plan g v ≡ nothing_left
unfolding create_plan dirty_item
all_clean g v h = rw (first_none (dirty g v) g.items h, le-ltb g.items g.items (omega arith)) refl

pub none_left_told : (t : List ℕ) → NoneLeft t → create_of t ≡ nothing_left
unfolding open_admission
none_left_told t n =
    plan_admitted_lem open_admission create_plan t refl n.passed {a = open_admission n.geometry (view n.geometry t)} refl (rw n.opened refl)
    ∙ all_clean n.geometry (view n.geometry t) n.clean

-- ---- and only if

plan_none : (g : Geometry) (v : View) → create_plan g v ≡ nothing_left → ltb (dirty_item g v) g.items ≡ false
unfolding create_plan
plan_none g v e = go (ltb (dirty_item g v) g.items) (no_partner g v (dirty_item g v)) e
  where
    go : (p q : Bool) → cond (not p) nothing_left (cond q (refuse NoHome) (carry g 0 (create_stores g v))) ≡ nothing_left → p ≡ false
    go false q k = refl
    go true true k = let z : ◌≡◌ {A = ℕ} 0 1 = cc in absurd (omega arith)
    go true false k = let z : ◌≡◌ {A = ℕ} 0 1 = cc in absurd (omega arith)

none_is_dirty : (g : Geometry) (v : View) → create_plan g v ≡ nothing_left → (b : ℕ) → b < g.items → dirty g v b ≡ false
unfolding dirty_item
none_is_dirty g v e b h = first_least (dirty g v) g.items b (omega (arith, ltb-false (dirty_item g v) g.items (plan_none g v e)))

admitted_open : (g : Geometry) (v : View) → open_admission g v ≡ (Ok tt) → is_open g v ≡ true
unfolding open_admission
admitted_open g v = asked (is_open g v) NoCheckpoint

pub nothing_left_lem : (t : List ℕ) → create_of t ≡ nothing_left → NoneLeft t
unfolding plan_by plan_checked plan_admitted
nothing_left_lem t e = checked (fault_of t) refl e
  where
    admitted :
        (g : Geometry) → fault_of t ≡ Ok g → (a : Admission) → a ≡ open_admission g (view g t) → plan_admitted a (create_plan g (view g t)) ≡ nothing_left
        → NoneLeft t
    admitted g p (Err r) k e = let z : ◌≡◌ {A = ℕ} 0 1 = cc in absurd (omega arith)
    admitted g p (Ok _) k e = record {
      geometry = g;
      passed = p;
      opened = admitted_open g (view g t) (sym k);
      clean = none_is_dirty g (view g t) e;
    }

    checked : (c : Result Geometry Refusal) → c ≡ fault_of t → plan_checked open_admission create_plan t c ≡ nothing_left → NoneLeft t
    checked (Err r) p e = let z : ◌≡◌ {A = ℕ} 0 1 = cc in absurd (omega arith)
    checked (Ok g) p e = admitted g (sym p) (open_admission g (view g t)) refl e
