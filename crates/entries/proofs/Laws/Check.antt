-- The laws of `specs/Check.antt`.
use Rattle.std.specs.Prelude.{Err, None, Ok, Option, Result, Some, ok_or, option_map}
use Prim.Native.Nat.{ℕ, ◌≤◌, ◌<◌}
use mathlib.Core.Path.{◌≡◌, refl, sym, ap, ◌∙◌}
use mathlib.Core.Bool.{true, false}
use mathlib.Core.List.{List}
use native.Mathlib.Omega.{arith}
use lib.ListN.{length, get_or}
use borrow.Author.Tests.{eq-eqb, ne_eqb, le-leb, lt-leb}
use Rattle.table.specs.declared.geometry.Geometry.{Geometry}
use Rattle.entries.specs.declared.check.Surveyed.{Surveyed}
use Rattle.table.specs.declared.answers.Refusal.{Refusal}
use Rattle.table.specs.declared.answers.Refusal.TheVariants.{EmptyOrShort, NotSound, NoGeometry}
use Rattle.table.specs.Words.{size_form}
use Rattle.table.specs.Geometry.{words_of}
use Rattle.table.specs.View.{view}
use Rattle.entries.specs.Sound.{sound}
use Rattle.entries.specs.Dirty.{dirty_item}
use Rattle.counting.proofs.Laws.Tests.{by_cases}
use Rattle.entries.specs.code.SurveyDirty.{table_found}
use Rattle.entries.specs.Check.{made_of, length_of, sizes_of, sound_of, fault_of, surveyed_by, surveyed_of}

-- ---- the ways of the code

pub sizes_empty : (t : List ℕ) → length t < 1 → Err EmptyOrShort ≡ sizes_of t
unfolding sizes_of
sizes_empty t h = simp (eq-eqb (length t) 0 (omega arith))

module _ (t : List ℕ) (h : 1 ≤ length t) where
  pub sizes_form : size_form (get_or t 0 0) ≡ false → Err NoGeometry ≡ sizes_of t
  unfolding sizes_of
  sizes_form k = simp (ne_eqb (length t) 0 (λ (z : length t ≡ 0). omega arith), k)

  module _ (k : size_form (get_or t 0 0) ≡ true) where
    sizes_length : sizes_of t ≡ length_of t (made_of t)
    unfolding sizes_of
    sizes_length = simp (ne_eqb (length t) 0 (λ (z : length t ≡ 0). omega arith), k)

    pub sizes_refused : {m : Option Geometry} {x : Refusal} → m ≡ made_of t → m ≡ None → Err x ≡ ok_or m NoGeometry → Err x ≡ sizes_of t
    unfolding length_of
    sizes_refused {x = x} p e k =
        let k' : Err x ≡ ok_or {T = Geometry} None NoGeometry = k ∙ ap (λ o. ok_or o NoGeometry) e in
        k' ∙ sym (sizes_length ∙ ap (length_of t) (sym p ∙ e))

    pub sizes_short : (g : Geometry) → made_of t ≡ Some g → length t < words_of g → Err EmptyOrShort ≡ sizes_of t
    unfolding length_of
    sizes_short g e l = sym (sizes_length ∙ ap (length_of t) e ∙ simp (lt-leb (words_of g) (length t) l))

    pub sizes_passed : (g : Geometry) → made_of t ≡ Some g → words_of g ≤ length t → Ok g ≡ sizes_of t
    unfolding length_of
    sizes_passed g e l = sym (sizes_length ∙ ap (length_of t) e ∙ simp (le-leb (words_of g) (length t) l))

-- ---- with the lowest dirty item

module _ (t : List ℕ) where
  pub survey_unsized : {x : Refusal} → Err x ≡ sizes_of t → Err x ≡ surveyed_of t
  unfolding surveyed_of surveyed_by fault_of sound_of
  survey_unsized e = ap (λ s. surveyed_by t (sound_of t s)) e

  module _ {g : Geometry} {o : Option ℕ} (e : Ok g ≡ sizes_of t) (h : o ≡ table_found g (view g t)) where
    surveyed : ok_or {T = Surveyed} (option_map (λ d. record { g = g; item = d }) o) NotSound ≡ surveyed_of t
    unfolding surveyed_of surveyed_by fault_of sound_of table_found
    surveyed = rw (← e, h) (by_cases (sound g (view g t)) (λ y. rw y refl) (λ y. rw y refl))

    pub survey_unsound : {x : Refusal} → o ≡ None → Err x ≡ ok_or o NotSound → Err x ≡ surveyed_of t
    survey_unsound {x} n k =
        let k' : Err x ≡ ok_or {T = ℕ} None NotSound = k ∙ ap (λ o. ok_or o NotSound) n in
        let same : x ≡ NotSound = cc in
        rw same (rw n at surveyed)

    pub survey_sound : {d : ℕ} → o ≡ Some d → Ok (record { g = g; item = d }) ≡ surveyed_of t
    survey_sound y = rw y at surveyed

  module _ {r : Result Surveyed Refusal} (h : r ≡ surveyed_of t) where
    pub refused_failed : {x : Refusal} → r ≡ Err x → Err x ≡ fault_of t
    unfolding surveyed_of surveyed_by
    refused_failed {x} e = from (fault_of t) refl (sym h ∙ e)
      where
        from : (c : Result Geometry Refusal) → c ≡ fault_of t → surveyed_by t c ≡ Err x → Err x ≡ fault_of t
        from (Err y) p q = let same : y ≡ x = cc in ap (λ y. Err y) (sym same) ∙ p
        from (Ok g) p q = let z : ◌≡◌ {A = ℕ} 0 1 = cc in absurd (omega arith)

    -- the geometry, and the item
    pub sound_passed : {s : Surveyed} → r ≡ Ok s → (Ok s.g ≡ fault_of t) × (s.item ≡ dirty_item s.g (view s.g t))
    unfolding surveyed_of surveyed_by
    sound_passed {s} e = from (fault_of t) refl (sym h ∙ e)
      where
        from : (c : Result Geometry Refusal) → c ≡ fault_of t → surveyed_by t c ≡ Ok s → (Ok s.g ≡ fault_of t) × (s.item ≡ dirty_item s.g (view s.g t))
        from (Err y) p q = let z : ◌≡◌ {A = ℕ} 0 1 = cc in absurd (omega arith)
        from (Ok a) p q =
            let same : record { g = a; item = dirty_item a (view a t) } ≡ s = cc in
            (ap (λ y. Ok y.g) (sym same) ∙ p, sym (ap (λ y. y.item) same) ∙ ap (λ y. dirty_item y.g (view y.g t)) same)
