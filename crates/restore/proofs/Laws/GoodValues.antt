-- A table related to the plain memory has a live current copy of every item, and all of them have the memory's value.
use Prim.Native.Nat.{ℕ, ◌<◌}
use mathlib.Core.Path.{◌≡◌}
use mathlib.Core.Bool.{true}
use mathlib.Core.List.{List}
use native.Mathlib.Omega.{arith}
use Rattle.table.specs.Words.{owner, modified, shared_ck1, precommit1}
use Rattle.table.specs.View.{View, view}
use Rattle.entries.specs.Tally.{copy}
use Rattle.entries.proofs.Laws.Kinds.{Owned, modified_at, owner_at, Kind, clean, dirty, created, has_copy_lem, copy_live, copy_code}
use Rattle.entries.proofs.Laws.CheckFacts.{accepted_facts}
use Rattle.homes.proofs.Laws.Kept.{test_live}
use Rattle.restore.specs.Memory.{Memory, value_of}
use Rattle.restore.specs.Run.{geometry_in}
use Rattle.restore.specs.OneItem.{HasValue}
use Rattle.restore.proofs.Laws.HitReady.{live_inside}
use Rattle.restore.proofs.Laws.Good.{Good}

-- an item of any kind has a current copy
kind_copy : (phase : ℕ) (v : View) (N b : ℕ) → Kind phase v N b → (n : ℕ) × (copy v b n ≡ true)
kind_copy phase v N b (clean k) = (k.one, has_copy_lem v b k.one shared_ck1 (λ z. omega arith) k.first.holds)
kind_copy phase v N b (dirty k) = (k.node, go k.owned)
  where
    go : {m : ℕ} → Owned v N b m → copy v b m ≡ true
    go {m} (modified_at o alone) = has_copy_lem v b m modified (λ z. omega arith) o.holds
    go {m} (owner_at o codes) = has_copy_lem v b m owner (λ z. omega arith) o.holds
kind_copy phase v N b (created e k) = (k.one, has_copy_lem v b k.one precommit1 (λ z. omega arith) k.first.holds)

pub good_has :
    (t : List ℕ) (memory : Memory) (commits : ℕ) → Good t memory commits → (b : ℕ) → b < (geometry_in t).items
    → HasValue (view (geometry_in t) t) b (value_of memory b)
good_has t memory commits good b h =
    let g = geometry_in t in
    let v = view g t in
    let (n, c) = kind_copy _ v g.nodes b ((accepted_facts t g good.serves.passed).table.items b h) in
    record {
      node = n;
      node_live = copy_live v b n c;
      node_copy = copy_code v b n c;
      all = λ m l d. good.serves.current m b (test_live g v m (live_inside g t m l) l) h d;
    }
