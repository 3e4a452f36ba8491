-- The relation of a table to the plain memory and to the commits finished since the last formatting.
use Rattle.std.specs.Prelude.{Ok}
use Prim.Native.Nat.{ℕ, ◌<◌}
use mathlib.Core.Path.{◌≡◌, sym, ap, ◌∙◌}
use mathlib.Core.List.{List}
use native.Mathlib.Omega.{arith}
use lib.ListN.{length}
use Rattle.table.specs.declared.geometry.Geometry.{Geometry}
use Rattle.table.proofs.Laws.Words.{nodes_size, items_size, frames_size}
use Rattle.entries.specs.Check.{fault_of}
use Rattle.entries.proofs.Laws.CheckFacts.{Shape, accepted_facts}
use Rattle.homes.proofs.Laws.Serves.{Serves}
use Rattle.restore.specs.Memory.{Memory, value_of, saved_in}
use Rattle.restore.specs.Run.{geometry_in}

pub record Good (t : List ℕ) (memory : Memory) (commits : ℕ) : Type 0 where
  pub serves : Serves t (geometry_in t) (value_of memory) (saved_in memory) commits
  pub values_size : length memory.values ≡ (geometry_in t).items
  pub saved_size : length memory.saved ≡ (geometry_in t).items

-- ---- the geometry of word 0 is that of the checks

pub shape_geometry : (t : List ℕ) (g : Geometry) → Shape t g → geometry_in t ≡ g
shape_geometry t g s =
    let n = g.nodes in
    let m = g.items in
    let f = g.frames in
    rw (s.word, nodes_size n m f (omega (arith, s.sizes)) (omega (arith, s.sizes)) (omega (arith, s.sizes)), items_size n m f (omega (arith, s.sizes)) (omega (arith, s.sizes)) (omega (arith, s.sizes)), frames_size n m f (omega (arith, s.sizes)) (omega (arith, s.sizes)) (omega (arith, s.sizes)))

pub passed_geometry : (t : List ℕ) (g : Geometry) → fault_of t ≡ Ok g → geometry_in t ≡ g
passed_geometry t g p = shape_geometry t g (accepted_facts t g p).shape

-- ---- from what serves

-- the same values of every item
pub serves_as :
    (t : List ℕ) (g : Geometry) (values values' saved saved' : ℕ → ℕ) (number : ℕ) → ((b : ℕ) → b < g.items → values b ≡ values' b)
    → ((b : ℕ) → b < g.items → saved b ≡ saved' b) → Serves t g values saved number → Serves t g values' saved' number
serves_as t g values values' saved saved' number p q s = record {
  passed = s.passed;
  number_is = s.number_is;
  current = λ n b l h d. s.current n b l h d ∙ p b h;
  back = λ n b l h d. s.back n b l h d ∙ q b h;
}

pub good_by :
    (t : List ℕ) (g : Geometry) (memory : Memory) (commits : ℕ) → Serves t g (value_of memory) (saved_in memory) commits
    → length memory.values ≡ g.items → length memory.saved ≡ g.items → Good t memory commits
good_by t g memory commits s p q =
    let e = passed_geometry t g s.passed in
    record { serves = rw e s; values_size = p ∙ ap (λ g. g.items) (sym e); saved_size = q ∙ ap (λ g. g.items) (sym e) }
