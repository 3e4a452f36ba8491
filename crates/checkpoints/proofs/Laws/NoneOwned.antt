-- What Commit's admission tells: no live copy is Owner or Modified. "12 a dirty item not created"
use Rattle.homes.specs.Admission.{Admission}
use Rattle.std.specs.Prelude.{Err, Ok}
use Prim.Native.Nat.{ℕ, ◌<◌}
use mathlib.Core.Path.{◌≡◌}
use mathlib.Core.Bool.{false, not}
use native.Mathlib.Omega.{arith}
use lib.Dec.{ltb}
use borrow.Author.Tests.{ltb-false, not-true}
use Rattle.counting.proofs.Laws.Tests.{and_no_right}
use Rattle.counting.proofs.Laws.First.{first_least}
use Rattle.table.specs.declared.geometry.Geometry.{Geometry}
use Rattle.table.specs.declared.answers.Refusal.TheVariants.{NotCreated}
use Rattle.table.specs.View.{View, live, current}
use Rattle.entries.specs.Dirty.{owns, owns_at, owner_of, dirty, dirty_item}
use Rattle.checkpoints.specs.Checkpoint.{open_admission}
use Rattle.checkpoints.specs.Commit.{created_admission, commit_admission}
use Rattle.homes.proofs.Laws.Admission.{asked}
use Rattle.homes.proofs.Laws.Kept.{Live, live_test}

module _ (g : Geometry) (v : View) where
  none_dirty_lem : commit_admission g v ≡ (Ok tt) → ltb (dirty_item g v) g.items ≡ false
  unfolding created_admission
  none_dirty_lem = go (open_admission g v)
    where
      go : (a : Admission) → created_admission g v a ≡ (Ok tt) → ltb (dirty_item g v) g.items ≡ false
      go (Err x) e = let z : ◌≡◌ {A = ℕ} 0 1 = cc in absurd (omega arith)
      go (Ok _) e = not-true (ltb (dirty_item g v) g.items) (asked (not (ltb (dirty_item g v) g.items)) NotCreated e)

  not_dirty : ltb (dirty_item g v) g.items ≡ false → (b : ℕ) → b < g.items → dirty g v b ≡ false
  unfolding dirty_item
  not_dirty e b h = first_least (dirty g v) g.items b (omega (arith, ltb-false (dirty_item g v) g.items e))

  not_owned : (b : ℕ) → dirty g v b ≡ false → (n : ℕ) → n < g.nodes → owns_at v b n ≡ false
  unfolding dirty owner_of
  not_owned b e n h = first_least (owns_at v b) g.nodes n (omega (arith, ltb-false (owner_of g v b) g.nodes e))

  pub none_owned : commit_admission g v ≡ (Ok tt) → (n b : ℕ) → Live g v n → b < g.items → owns (current (v.entry n b)) ≡ false
  unfolding owns_at
  none_owned a n b l h = and_no_right (live v n) (live_test g v n l) (not_owned b (not_dirty (none_dirty_lem a) b h) n l.there)
