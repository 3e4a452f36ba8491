-- The laws of `specs/Geometry.antt`.
use Rattle.std.specs.Prelude.{None, Some}
use Prim.Native.Nat.{ℕ, ◌+◌, ◌-◌, ◌*◌, ◌/◌, ◌%◌, ◌<◌, ◌≤◌}
use mathlib.Core.Path.{◌≡◌, refl, sym, ap, ◌∙◌}
use mathlib.Core.Logic.{◌≢◌, ◌⊎◌, inl, inr, ⊎_elim}
use mathlib.Core.Bool.{true}
use native.Mathlib.Omega.{arith}
use native.Mathlib.Nat.{mul-le-mul}
use lib.Arith.{digits_div, digits_mod, digits_lt}
use lib.Dec.{eqb, leb}
use borrow.Author.Tests.{eqb-true, leb-true}
use Rattle.counting.proofs.Laws.Tests.{both, either, by_cases}
use Rattle.table.specs.declared.geometry.Geometry.{Geometry}
use Rattle.table.specs.Geometry.{in_ranges, allowed, geometry_of, words_of, entry_at}

-- ---- addresses

-- an entry of a node and an item that are there lies within the table
pub entry_within : (g : Geometry) {n b : ℕ} → n < g.nodes → b < g.items → entry_at g n b + 2 < words_of g
entry_within g hn hb = omega (arith, digits_lt hn hb)

-- words of two different entries lie apart
pub entries_apart :
    (g : Geometry) (n b n' b' i j : ℕ) → i < 3 → j < 3 → b < g.items → b' < g.items → (n ≡ n' → b ≡ b' → ⊥)
    → entry_at g n b + i ≢ entry_at g n' b' + j
entries_apart g n b n' b' i j hi hj hb hb' d e =
    let c : n * g.items + b ≡ n' * g.items + b' = omega arith in
    d (sym (digits_div n hb) ∙ ap (λ (x : ℕ). x / g.items) c ∙ digits_div n' hb')
    (sym (digits_mod n hb) ∙ ap (λ (x : ℕ). x % g.items) c ∙ digits_mod n' hb')

-- the product of two narrow numbers is far from overflow
pub product : {a b : ℕ} (x y : ℕ) → a ≤ x → b ≤ y → a * b ≤ x * y
product x y h k = mul-le-mul h k

-- ---- the ranges of an allowed geometry, as facts

pub record Sized (n m f : ℕ) : Type 0 where
  pub nodes_low : 3 ≤ n
  pub nodes_high : n ≤ 16
  pub items_low : 1 ≤ m
  pub items_high : m ≤ 256
  pub frames_low : 1 ≤ f
  pub frames_high : f ≤ 512

pub sized : (n m f : ℕ) → in_ranges n m f ≡ true → Sized n m f
sized n m f h =
    let a = both (leb 3 n) h in
    let b = both (leb n 16) a.1 in
    let c = both (leb 1 m) b.1 in
    let d = both (leb m 256) c.1 in
    let e = both (leb 1 f) d.1 in
    omega (arith, leb-true)

-- a frame for every place, or frames for four copies of an item
pub four_copies_lem : (n m f : ℕ) → allowed n m f ≡ true → (f ≡ 2 * m) ⊎ (4 * m - 1 ≤ (n - 2) * f)
four_copies_lem n m f h = either (eqb f (2 * m)) (both (in_ranges n m f) h).1
    (λ e. inl (eqb-true f (2 * m) e)) (λ e. inr (leb-true (4 * m - 1) ((n - 2) * f) e))

-- so the frames of all nodes but two hold two copies of every item, but one copy
pub roomy : (n m f : ℕ) → allowed n m f ≡ true → 2 * m - 1 ≤ (n - 2) * f
roomy n m f h = ⊎_elim
    (λ e. let s = sized n m f (both (in_ranges n m f) h).0 in
    let k : 1 * f ≤ (n - 2) * f = mul-le-mul (omega (arith, s.nodes_low)) (omega arith) in
    omega (arith, e, k))
    (λ e. omega (arith, e))
    (four_copies_lem n m f h)

-- a geometry that was made is allowed, and has the numbers that were asked for
pub made_allowed : (n m f : ℕ) (g : Geometry) → geometry_of n m f ≡ Some g → (allowed n m f ≡ true) × (g ≡ record { nodes = n; items = m; frames = f })
unfolding geometry_of
made_allowed n m f g e = by_cases (allowed n m f)
    (λ y. (y, let e' : Some (record { nodes = n; items = m; frames = f }) ≡ Some g = rw y at e in cc))
    (λ y. let e' : None ≡ Some g = rw y at e in let z : ◌≡◌ {A = ℕ} 0 1 = cc in absurd (omega arith))

pub allowed_made : (n m f : ℕ) → allowed n m f ≡ true → geometry_of n m f ≡ Some (record { nodes = n; items = m; frames = f })
unfolding geometry_of
allowed_made n m f e = rw e refl

pub made_sized : (n m f : ℕ) {g : Geometry} → geometry_of n m f ≡ Some g → Sized g.nodes g.items g.frames
made_sized n m f {g} e = let mk = made_allowed n m f g e in rw mk.1 (sized n m f (both (in_ranges n m f) mk.0).0)
