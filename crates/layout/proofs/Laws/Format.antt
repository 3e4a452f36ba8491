-- The laws of `specs/Format.antt`.
use Rattle.std.specs.Prelude.{None, Option, Some, Err, Ok, Result}
use Prim.Native.Nat.{ℕ, ◌*◌, ◌≤◌}
use mathlib.Core.Path.{◌≡◌, refl, sym, ap, ◌∙◌}
use mathlib.Core.Bool.{true, false}
use mathlib.Core.List.{List, [], ◌∷◌, map}
use native.Mathlib.Omega.{arith}
use lib.Dec.{leb}
use lib.ListN.{length}
use borrow.Author.Tests.{le-leb, leb-true, ltb-false}
use Rattle.counting.proofs.Laws.Tests.{by_cases}
use Rattle.table.specs.declared.geometry.Geometry.{Geometry}
use Rattle.table.specs.declared.answers.Refusal.{Refusal}
use Rattle.table.specs.declared.answers.Refusal.TheVariants.{EmptyOrShort, TooManyFrames}
use Rattle.table.specs.Geometry.{allowed, geometry_of, words_of}
use Rattle.table.proofs.Laws.Geometry.{made_sized, made_allowed}
use Rattle.table.specs.Stores.{Store, size_store, entry_store, runs, Stored}
use Rattle.table.proofs.Laws.Stores.{nested_flat, stored_then}
use Rattle.table.specs.Answers.{Plan, refuse, carry}
use Rattle.table.proofs.Laws.Answers.{refused_not}
use Rattle.layout.specs.Format.{first_entry, first_mark, first_entries, format_stores, unusable_frames, format_made, format_of}
use Rattle.layout.specs.code.Format.{fitting, geometry_for}

-- ---- the ways of the code

-- the entries, as two loops, one in the other
pub entries_nested :
    {g : Geometry} {left left' : ℕ} {t t' : List ℕ}
    → Stored g left (runs (λ n. runs (λ b. map (entry_store n b) (first_entry g n b)) g.items) g.nodes) t t' left'
    → Stored g left (first_entries g) t t' left'
unfolding first_entries
entries_nested {g} s = rw (nested_flat (λ n b. map (entry_store n b) (first_entry g n b)) g.items g.nodes) at s

-- word 0, marks, entries
pub format_then :
    {g : Geometry} {left left₁ left₂ left₃ : ℕ} {t t₁ t₂ t₃ : List ℕ} → Stored g left (size_store g ∷ []) t t₁ left₁
    → Stored g left₁ (runs first_mark g.nodes) t₁ t₂ left₂ → Stored g left₂ (first_entries g) t₂ t₃ left₃ → Stored g left (format_stores g) t t₃ left₃
unfolding format_stores
format_then a b c = stored_then a (stored_then b c)

-- the geometry that the numbers give a table that is long enough
pub geometry_fits :
    (t : List ℕ) (nodes items frames : ℕ) {g : Geometry} → geometry_of nodes items frames ≡ Some g → unusable_frames g ≡ false
    → words_of g ≤ length t → Ok g ≡ geometry_for t nodes items frames
unfolding geometry_for
geometry_fits t nodes items frames {g} h u l = rw (h, u, le-leb (words_of g) (length t) l) refl

-- the plan, by that geometry
abbrev fitted_plan : Result Geometry Refusal → Plan
fitted_plan (Err x) = refuse x
fitted_plan (Ok g) = carry g 0 (format_stores g)

made_plan : (t : List ℕ) (made : Option Geometry) → format_made t made ≡ fitted_plan (fitting t made)
unfolding format_made
made_plan t None = refl
made_plan t (Some g) = by_cases (unusable_frames g) (λ u. rw u refl) (λ u. by_cases (leb (words_of g) (length t)) (λ l. rw (u, l) refl) (λ l. rw (u, l) refl))

fitted_made : (t : List ℕ) (made : Option Geometry) {g : Geometry} → fitting t made ≡ Ok g → made ≡ Some g
fitted_made t None e = let z : ◌≡◌ {A = ℕ} 0 1 = cc in absurd (omega arith)
fitted_made t (Some h) {g} e = by_cases (unusable_frames h)
    (λ u. let k : ◌≡◌ {A = Result Geometry Refusal} (Err TooManyFrames) (Ok g) = rw u at e in
    let z : ◌≡◌ {A = ℕ} 0 1 = cc in
    absurd (omega arith))
    (λ u. by_cases (leb (words_of h) (length t))
    (λ l. let k : ◌≡◌ {A = Result Geometry Refusal} (Ok h) (Ok g) = rw (u, l) at e in
    let same : h ≡ g = cc in
    ap (λ h. Some h) same)
    (λ l. let k : ◌≡◌ {A = Result Geometry Refusal} (Err EmptyOrShort) (Ok g) = rw (u, l) at e in
    let z : ◌≡◌ {A = ℕ} 0 1 = cc in
    absurd (omega arith)))

module _ (t : List ℕ) (nodes items frames : ℕ) where
  pub format_refused : {x : Refusal} → Err x ≡ geometry_for t nodes items frames → format_of t nodes items frames ≡ refuse x
  unfolding geometry_for
  format_refused e = made_plan t (geometry_of nodes items frames) ∙ ap fitted_plan (sym e)

  pub format_carried : {g : Geometry} → Ok g ≡ geometry_for t nodes items frames → format_of t nodes items frames ≡ carry g 0 (format_stores g)
  unfolding geometry_for
  format_carried e = made_plan t (geometry_of nodes items frames) ∙ ap fitted_plan (sym e)

  pub format_nodes : {g : Geometry} → Ok g ≡ geometry_for t nodes items frames → 2 ≤ g.nodes
  unfolding geometry_for
  format_nodes e =
      let s = made_sized nodes items frames (fitted_made t (geometry_of nodes items frames) (sym e)) in
      omega (arith, s.nodes_low)

-- ---- an accepted Format: an allowed geometry with the items asked for and frames that can be used, a table long enough
-- for it, and these stores

pub record FormatAccepted (t : List ℕ) (m : ℕ) (g : Geometry) (ss : List Store) : Type 0 where
  pub fair : allowed g.nodes g.items g.frames ≡ true
  pub items : g.items ≡ m
  pub usable : g.frames ≤ 2 * g.items
  pub long : words_of g ≤ length t
  pub stores : ss ≡ format_stores g

pub format_accepted :
    (t : List ℕ) (n m f : ℕ) {g : Geometry} {x : ℕ} {ss : List Store} → format_of t n m f ≡ carry g x ss
    → FormatAccepted t m g ss
unfolding format_made
format_accepted t n m f {g} {x} {ss} e = from_made (geometry_of n m f) refl e
  where
    from_made : (a : Option Geometry) → a ≡ geometry_of n m f → format_made t a ≡ carry g x ss → FormatAccepted t m g ss
    from_made None p e = absurd (refused_not e)
    from_made (Some h) p e = by_cases (unusable_frames h)
        (λ u. absurd (refused_not (rw u at e)))
        (λ u. by_cases (leb (words_of h) (length t))
        (λ l. let e' : carry h 0 (format_stores h) ≡ carry g x ss = rw (u, l) at e in
        let same : h ≡ g = cc in
        let list : format_stores h ≡ ss = cc in
        let mk = made_allowed n m f h (sym p) in
        let fair : allowed h.nodes h.items h.frames ≡ true = rw mk.1 mk.0 in
        let few : h.frames ≤ 2 * h.items = omega (arith, ltb-false (2 * h.items) h.frames u) in
        record {
          fair = rw same at fair;
          items = ap (λ g. g.items) (sym same ∙ mk.1);
          usable = rw same at few;
          long = rw same at (leb-true (words_of h) (length t) l);
          stores = sym list ∙ ap format_stores same;
        })
        (λ l. absurd (refused_not (rw (u, l) at e))))
