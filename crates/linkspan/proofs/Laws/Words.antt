-- Laws of `specs/Report.antt`: the words that a table needs.
use Rattle.std.specs.Prelude.{None, Option, Some}
use Prim.Native.Nat.{ℕ, ◌*◌, ◌<◌}
use mathlib.Core.Path.{◌≡◌, refl, sym, ap, ◌∙◌}
use mathlib.Core.Bool.{true}
use native.Mathlib.Omega.{arith}
use borrow.Author.Tests.{eq-eqb, le-leb}
use Rattle.counting.proofs.Laws.Tests.{both, by_cases}
use Rattle.table.specs.declared.geometry.Geometry.{Geometry}
use Rattle.table.specs.Geometry.{in_ranges, allowed, geometry_of, words_of}
use Rattle.table.proofs.Laws.Geometry.{sized, made_allowed, allowed_made}
use Rattle.linkspan.specs.Report.{made_words, words_for}

-- ---- the ways of the code

-- more items than a table has
pub words_past : (n m : ℕ) → 256 < m → 0 ≡ words_for n m
unfolding words_for made_words
words_past n m h = none_by (geometry_of n m (2 * m)) refl
  where
    none_by : (made : Option Geometry) → geometry_of n m (2 * m) ≡ made → 0 ≡ made_words made
    none_by None e = refl
    none_by (Some g) e =
        let k = made_allowed n m (2 * m) g e in
        absurd (omega (arith, h, sized n m (2 * m) (both (in_ranges n m (2 * m)) k.0).0))

module _ (n m : ℕ) {made : Option Geometry} (e : made ≡ geometry_of n m (2 * m)) where
  pub words_none : made ≡ None → 0 ≡ words_for n m
  unfolding words_for made_words
  words_none h = sym (ap made_words (sym e ∙ h))

  pub words_some : {g : Geometry} {r : ℕ} → made ≡ Some g → r ≡ words_of g → r ≡ words_for n m
  unfolding words_for made_words
  words_some h k = k ∙ sym (ap made_words (sym e ∙ h))

-- ---- what the number tells

-- a geometry stays allowed with a frame for each place
pub all_places : (n m f : ℕ) → allowed n m f ≡ true → allowed n m (2 * m) ≡ true
all_places n m f h =
    let s = sized n m f (both (in_ranges n m f) h).0 in
    rw (
      le-leb 3 n s.nodes_low,
      le-leb n 16 s.nodes_high,
      le-leb 1 m s.items_low,
      le-leb m 256 s.items_high,
      le-leb 1 (2 * m) (omega (arith, s.items_low)),
      le-leb (2 * m) 512 (omega (arith, s.items_high)),
      eq-eqb (2 * m) (2 * m) refl,
    ) refl

-- every geometry of these nodes and items has these words
pub words_of_any : (n m f : ℕ) (g : Geometry) → geometry_of n m f ≡ Some g → words_for n m ≡ words_of g
unfolding words_for made_words
words_of_any n m f g e =
    let k = made_allowed n m f g e in
    rw (allowed_made n m (2 * m) (all_places n m f k.0), k.1) refl

-- 0 where there is none
pub no_words : (n m : ℕ) → words_for n m ≡ 0 → (f : ℕ) → geometry_of n m f ≡ None
unfolding geometry_of
no_words n m z f = by_cases (allowed n m f)
    (λ y. let k = words_of_any n m f _ (allowed_made n m f y) in absurd (omega (arith, k, z)))
    (λ y. rw y refl)
