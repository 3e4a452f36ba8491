-- No list of stores reaches 2^16, whatever the call and the table: so a limit of 2^16 − 1 or more is the whole call.
use Rattle.std.specs.Prelude.{Option}
use Prim.Native.Nat.{ℕ, ◌+◌, ◌*◌, ◌^◌, ◌≤◌, ◌<◌, min}
use mathlib.Core.Path.{◌≡◌, refl}
use mathlib.Core.List.{List, []}
use native.Mathlib.Omega.{arith}
use lib.ListN.{length}
use Rattle.counting.proofs.Laws.Tests.{by_cases, both}
use Rattle.table.specs.declared.geometry.Geometry.{Geometry}
use Rattle.table.specs.Geometry.{in_ranges}
use Rattle.table.proofs.Laws.Geometry.{Sized, sized, product}
use Rattle.table.specs.Stores.{Store}
use Rattle.table.specs.View.{View, view}
use Rattle.table.specs.Answers.{Plan, refuse, nothing_left, carry, table_of}
use Rattle.table.proofs.Laws.Answers.{refused_not}
use Rattle.entries.proofs.Laws.CheckFacts.{sizes_facts, accepted_facts}
use Rattle.layout.specs.Format.{format_of}
use Rattle.layout.proofs.Laws.Format.{format_accepted}
use Rattle.homes.specs.Admission.{Admission, plan_by}
use Rattle.homes.proofs.Laws.Plans.{plan_acted, acted_carried}
use Rattle.calls.specs.Read.{read_admission, read_value, read_stores}
use Rattle.calls.specs.Write.{write_admission, write_stores}
use Rattle.homes.specs.Evict.{evict_admission, evict_stores}
use Rattle.checkpoints.specs.Open.{start_admission, open_stores, creating_mark}
use Rattle.checkpoints.specs.Create.{no_partner, create_stores, create_plan, create_of}
use Rattle.checkpoints.specs.Commit.{commit_admission, commit_stores, abandon_stores}
use Rattle.entries.specs.Dirty.{owner_of, dirty_item, none_dirty}
use Rattle.checkpoints.specs.Checkpoint.{open_admission}
use Rattle.restore.specs.declared.call.Call.{Call}
use Rattle.restore.specs.declared.call.Call.TheVariants.{Format, Check, Stretch, Read, Write, Evict, Open, Create, Commit, Abandon, Recover}
use Rattle.recovery.specs.Recover.{recover_of}
use Rattle.recovery.proofs.Laws.RecoverPlan.{recover_carries}
use Rattle.restore.specs.Call.{plan_of}
use Rattle.restore.specs.Run.{whole_table}
use Rattle.restore.proofs.Laws.GoodCall.{check_nothing, stretch_nothing}
use Rattle.restore.proofs.Laws.Lengths.{marks_short, after_past}
use Rattle.restore.proofs.Laws.CallLengths.{format_length, read_length, write_length, evict_length, create_length, commit_length_lem, abandon_length}
use Rattle.restore.proofs.Laws.RecoverLength.{recover_length}

-- ---- the longest list that a geometry's numbers allow

abbrev most : Geometry → ℕ
most g = 1 + 4 * (g.nodes * g.items) + 2 * g.items + 2 * g.nodes + 4

most_under : (g : Geometry) → Sized g.nodes g.items g.frames → most g < 2 ^ 16
most_under g s = omega (arith, s, product 16 256 s.nodes_high s.items_high)

-- a list of an allowed geometry, no longer than that
under : (g : Geometry) (ss : List Store) → Sized g.nodes g.items g.frames → length ss ≤ most g → length ss < 2 ^ 16
under g ss s h = omega (arith, most_under g s)

-- ---- the calls that the table checks admit

module _
    (admits : Geometry → View → Admission) (value : Geometry → View → ℕ) (stores : Geometry → View → List Store)
    (bound : (g : Geometry) (v : View) → length (stores g v) ≤ most g) where
  carried_short :
      (t : List ℕ) {g : Geometry} {x : ℕ} {ss : List Store} → plan_by admits (λ g v. carry g (value g v) (stores g v)) t ≡ carry g x ss → length ss < 2 ^ 16
  carried_short t {g} {x} {ss} e =
      let c = acted_carried admits value stores t e in
      under g ss (accepted_facts t g c.passed).shape.sizes (rw c.stores_are (bound g (view g t)))

-- Create, which may have nothing left to do
create_plan_short :
    (g : Geometry) (v : View) {h : Geometry} {x : ℕ} {ss : List Store} → create_plan g v ≡ carry h x ss → length ss ≤ 4
unfolding create_plan
create_plan_short g v {h} {x} {ss} e =
    by_cases (none_dirty g v)
    (λ y. let e' : nothing_left ≡ carry h x ss = rw y at e in let z : ◌≡◌ {A = ℕ} 0 1 = cc in absurd (omega arith))
    (λ y. by_cases (no_partner g v (dirty_item g v))
    (λ q. absurd (refused_not (rw (y, q) at e)))
    (λ q. let e' : carry g 0 (create_stores g v) ≡ carry h x ss = rw (y, q) at e in
    let list : create_stores g v ≡ ss = cc in
    rw list at (create_length g v (dirty_item g v) (owner_of g v (dirty_item g v)))))

create_short : (t : List ℕ) {g : Geometry} {x : ℕ} {ss : List Store} → create_of t ≡ carry g x ss → length ss < 2 ^ 16
create_short t e =
    let a = plan_acted open_admission create_plan t e in
    omega (arith, create_plan_short a.geometry (view a.geometry t) a.plan)

-- ---- Format, and the calls that store nothing

format_short : (t : List ℕ) (n m f : ℕ) {g : Geometry} {x : ℕ} {ss : List Store} → format_of t n m f ≡ carry g x ss → length ss < 2 ^ 16
format_short t n m f {g} {x} {ss} e =
    let a = format_accepted t n m f e in
    under g ss (sized g.nodes g.items g.frames (both (in_ranges g.nodes g.items g.frames) a.fair).0)
    (omega (arith, format_length t n m f e))

none_short : {ss : List Store} → ss ≡ [] → length ss < 2 ^ 16
none_short e = rw e (omega arith)

-- ---- Recover

recover_short : (t : List ℕ) (lost : Option ℕ) (scratch : ℕ) {g : Geometry} {x : ℕ} {ss : List Store} → recover_of t lost scratch ≡ carry g x ss → length ss < 2 ^ 16
recover_short t lost scratch {g} {x} {ss} e =
    let c = recover_carries t lost scratch e in
    let l : length ss ≤ most g = rw c.stores_are (omega (arith, recover_length g lost (view g t))) in
    under g ss (sizes_facts t g c.passed).sizes l

-- ---- THE BOUND

pub plan_short : (t : List ℕ) (scratch : ℕ) (call : Call) {g : Geometry} {x : ℕ} {ss : List Store} → plan_of t scratch call ≡ carry g x ss → length ss < 2 ^ 16
unfolding plan_of
plan_short t scratch (Format n m f) e = format_short t n m f e
plan_short t scratch Check e = none_short (check_nothing t e)
plan_short t scratch (Stretch n) e = none_short (stretch_nothing t n e)
plan_short t scratch (Read n b) e =
    carried_short (λ g v. read_admission g v n b) (λ g v. read_value g v n b) (λ g v. read_stores g v n b)
    (λ g v. omega (arith, read_length g v n b)) t e
plan_short t scratch (Write n b x) e =
    carried_short (λ g v. write_admission g v n b) (λ g v. 0) (λ g v. write_stores g v n b x) (λ g v. omega (arith, write_length g v n b x)) t e
plan_short t scratch (Evict n b place) e =
    carried_short (λ g v. evict_admission g v place n b) (λ g v. 0) (λ g v. evict_stores g v place n b)
    (λ g v. omega (arith, evict_length g v place n b)) t e
plan_short t scratch Open e = carried_short start_admission (λ g v. 0) open_stores (λ g v. omega (arith, marks_short g v creating_mark)) t e
plan_short t scratch Create e = create_short t e
plan_short t scratch Commit e = carried_short commit_admission (λ g v. 0) commit_stores (λ g v. omega (arith, commit_length_lem g v)) t e
plan_short t scratch Abandon e = carried_short open_admission (λ g v. 0) abandon_stores (λ g v. omega (arith, abandon_length g v)) t e
plan_short t scratch (Recover lost) e = recover_short t lost scratch e

-- ---- such a limit is the whole call: all the stores are made

module _ (t : List ℕ) (scratch : ℕ) (call : Call) (limit : ℕ) (large : 2 ^ 16 ≤ limit + 1) where
  pub whole_at : table_of (plan_of t scratch call) limit t ≡ whole_table (plan_of t scratch call) t
  whole_at = go (plan_of t scratch call) refl
    where
      go : (p : Plan) → plan_of t scratch call ≡ p → table_of p limit t ≡ whole_table p t
      go (refuse r) e = refl
      go nothing_left e = refl
      go (carry g x ss) e = after_past g limit ss t (omega (arith, plan_short t scratch call e))

  pub whole_count : {g : Geometry} {x : ℕ} {ss : List Store} → plan_of t scratch call ≡ carry g x ss → min limit (length ss) ≡ length ss
  whole_count e = omega (arith, plan_short t scratch call e)
