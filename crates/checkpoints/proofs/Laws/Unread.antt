-- "A dead node's words, mark apart, are never read", by Open, Create, Commit and Abandon: their plans do not rest on
-- them.
use Rattle.homes.specs.Admission.{Admission}
use Rattle.std.specs.Prelude.{Err, Ok}
use Prim.Native.Nat.{ℕ, ◌*◌, ◌/◌, ◌%◌, ◌<◌}
use mathlib.Core.Path.{◌≡◌, refl, ap}
use mathlib.Core.Bool.{true, cond, not}
use mathlib.Core.List.{List, ◌++◌, map}
use lib.Dec.{eqb, ltb}
use borrow.Author.Tests.{ltb-true, not-false}
use Rattle.counting.proofs.Laws.Tests.{both, by_cases}
use Rattle.counting.proofs.Laws.First.{first_passes}
use Rattle.table.specs.declared.geometry.Geometry.{Geometry}
use Rattle.table.specs.declared.answers.Refusal.TheVariants.{NotCreated}
use Rattle.table.specs.Words.{shared, precommit2}
use Rattle.table.specs.Stores.{Store, Change, entry_store}
use Rattle.table.proofs.Laws.Stores.{runs_ext}
use Rattle.table.specs.View.{Entry, View, live, current, mark_to, marks_to}
use Rattle.table.specs.Answers.{carry}
use Rattle.entries.specs.Dirty.{owns_at, owner_of, dirty_item, none_dirty}
use Rattle.entries.proofs.Laws.Unread.{over, Agrees, Alike, same_first, same_found, same_owner, same_dirty}
use Rattle.homes.specs.declared.places.Place.TheVariants.{Current}
use Rattle.homes.specs.Home.{home_of}
use Rattle.homes.proofs.Laws.Unread.{same_home, same_home_stores, home_live, plan_alike}
use Rattle.checkpoints.specs.Checkpoint.{common_mark, is_open, open_admission, live_changes, entries_before, entries_to, commit_change, abandon_change}
use Rattle.checkpoints.specs.Open.{start_admission, open_of}
use Rattle.checkpoints.specs.Create.{shares_at, sharer_of, precommit2_stores, create_item, no_partner, create_plan, create_of}
use Rattle.checkpoints.specs.Commit.{committing_mark, committed_mark, commit_stores, created_admission, commit_admission, commit_of, running_mark, abandon_stores, abandon_of}
use Rattle.checkpoints.proofs.Laws.CreateCode.{next_owned}

module _ (g : Geometry) (v : View) (e : ℕ → ℕ → Entry) (s : Agrees g v e) where
  -- ---- passes

  -- marks are the view's own
  pub same_marks_to : (f : ℕ → ℕ) → marks_to g (over v e) f ≡ marks_to g v f
  unfolding marks_to mark_to
  same_marks_to f = refl

  same_open : open_admission g (over v e) ≡ open_admission g v
  unfolding open_admission is_open common_mark
  same_open = refl

  same_start : start_admission g (over v e) ≡ start_admission g v
  unfolding start_admission is_open common_mark
  same_start = refl

  -- a live node's entry
  same_changes : (change : Entry → List Change) (n b : ℕ) → live_changes change (over v e) n b ≡ live_changes change v n b
  unfolding live_changes
  same_changes change n b = by_cases (live v n) (λ t. rw t (ap change (s.alive n b t))) (λ t. rw t refl)

  pub same_entries_to : (change : Entry → List Change) → entries_to g (over v e) change ≡ entries_to g v change
  unfolding entries_before
  same_entries_to change =
      runs_ext (g.nodes * g.items) _ _
      (λ k l. ap (map (entry_store (k / g.items) (k % g.items))) (same_changes change (k / g.items) (k % g.items)))

  -- ---- Commit, Abandon

  commit_admission_lem : commit_admission g (over v e) ≡ commit_admission g v
  unfolding open_admission is_open common_mark created_admission
  commit_admission_lem = go (open_admission g v)
    where
      go : (a : Admission) → created_admission g (over v e) a ≡ created_admission g v a
      go (Err x) = refl
      go (Ok _) = ap (λ n. cond (not (ltb n g.items)) (Ok tt) (Err NotCreated)) (same_dirty g v e s)

  commit_stores_lem : commit_stores g (over v e) ≡ commit_stores g v
  unfolding commit_stores marks_to mark_to
  commit_stores_lem =
      ap (λ (ss : List Store). (marks_to g v committing_mark ++ ss) ++ marks_to g v committed_mark)
      (same_entries_to commit_change)

  abandon_stores_lem : abandon_stores g (over v e) ≡ abandon_stores g v
  unfolding abandon_stores marks_to mark_to
  abandon_stores_lem = ap (λ (ss : List Store). ss ++ marks_to g v running_mark) (same_entries_to abandon_change)

  -- ---- Create: the owner and a sharer are live, and so is a home

  same_sharer : (b : ℕ) → sharer_of g (over v e) b ≡ sharer_of g v b
  unfolding sharer_of shares_at
  same_sharer b = same_first g v e s b (λ x. eqb (current x) shared)

  same_shares : (b : ℕ) → e (sharer_of g v b) b ≡ v.entry (sharer_of g v b) b
  unfolding sharer_of shares_at
  same_shares b = same_found g v e s (shares_at v b) (λ n h. (both (live v n) h).0) b

  owner_live : (b : ℕ) → owner_of g v b < g.nodes → live v (owner_of g v b) ≡ true
  unfolding owner_of owns_at
  owner_live b l = (both (live v (owner_of g v b)) (first_passes (owns_at v b) g.nodes l)).0

  same_partner : (b : ℕ) → no_partner g (over v e) b ≡ no_partner g v b
  unfolding no_partner
  same_partner b = rw (same_sharer b, same_owner g v e s b, same_home g v e s Current (owner_of g v b) b) refl

  create_item_lem : (b o : ℕ) → live v o ≡ true → create_item g (over v e) b o ≡ create_item g v b o
  unfolding create_item precommit2_stores
  create_item_lem b o t =
      let h = home_of g v Current o b in
      let k = home_live g v Current o b t in
      let stores = same_home_stores g v e s h k Current b precommit2 (v.entry o b).value in
      rw (s.alive o b t, same_sharer b, same_shares b, same_home g v e s Current o b, stores) refl

  same_create : create_plan g (over v e) ≡ create_plan g v
  unfolding create_plan
  same_create =
      let b = dirty_item g v in
      by_cases (none_dirty g v) (λ q. rw (same_dirty g v e s, q) refl)
      (λ q. let o = next_owned g v refl (ltb-true b g.items (not-false _ q)) in
      let item = create_item_lem b (owner_of g v b) (owner_live b o) in
      rw (same_dirty g v e s, q, same_partner b, same_owner g v e s b, item) refl)

pub open_alike : {t t' : List ℕ} → Alike t t' → open_of t' ≡ open_of t
open_alike a = plan_alike _ _ same_start (λ g v e s h. ap (carry g 0) (same_marks_to g v e s _)) a

pub create_alike : {t t' : List ℕ} → Alike t t' → create_of t' ≡ create_of t
create_alike a = plan_alike _ _ same_open (λ g v e s h. same_create g v e s) a

pub commit_alike : {t t' : List ℕ} → Alike t t' → commit_of t' ≡ commit_of t
commit_alike a = plan_alike _ _ commit_admission_lem (λ g v e s h. ap (carry g 0) (commit_stores_lem g v e s)) a

pub abandon_alike : {t t' : List ℕ} → Alike t t' → abandon_of t' ≡ abandon_of t
abandon_alike a = plan_alike _ _ same_open (λ g v e s h. ap (carry g 0) (abandon_stores_lem g v e s)) a
