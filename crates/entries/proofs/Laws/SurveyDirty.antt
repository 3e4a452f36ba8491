-- The laws of `specs/code/SurveyDirty.antt`.
use Rattle.std.specs.Prelude.{Option, Some, None}
use Rattle.std.specs.Bool.{then_some}
use Prim.Native.Nat.{ℕ, ◌+◌, ◌*◌, ◌/◌, ◌%◌, ◌^◌, ◌<◌, ◌≤◌}
use mathlib.Core.Path.{◌≡◌, refl, sym, ap, ◌∙◌}
use mathlib.Core.Bool.{Bool, true, false, not, cond, ◌&&◌, ◌||◌, and-true, and_comm, or_assoc, or_self, or-false}
use mathlib.Core.List.{List}
use native.Mathlib.Omega.{arith}
use lib.Dec.{eqb, ltb}
use lib.ListN.{get_or}
use Rattle.counting.proofs.Laws.Tests.{both, by_cases, given, eqb_apart}
use Rattle.counting.specs.Counting.{every, sum, count, first}
use Rattle.counting.proofs.Laws.Counting.{every_at, every_back, every_back_ends, count_le, count_ext, count_or}
use Rattle.counting.proofs.Laws.First.{first_ext, found_counted, first_else, else_starts, else_turns, else_ends}
use Rattle.table.specs.declared.geometry.Geometry.{Geometry}
use Rattle.table.specs.Words.{state_form, phase_of, owner, modified}
use Rattle.table.specs.View.{View, view, live, current}
use Rattle.entries.specs.Dirty.{owns_at, owner_of, dirty, dirty_item}
use Rattle.entries.specs.Tally.{has}
use Rattle.entries.specs.Sound.{states_form, node_sound, nodes_sound, items_sound, sound}
use Rattle.entries.specs.code.MarksLoop.{marks_of, mark_met, marks_test}
use Rattle.entries.proofs.Laws.MarksLoop.{marks_sound}
use Rattle.entries.specs.code.Survey.{codes_form, holds, holds_at, keeps_at, top_at, live_top, low_form, weight_at, kind_test, created_tally, kind_by, owns_test}
use Rattle.entries.proofs.Laws.SurveyFields.{tally_fields, none_of}
use Rattle.entries.proofs.Laws.SurveyKinds.{same_has}
use Rattle.entries.specs.code.SurveySound.{Surveyable, RowsSurveyed}
use Rattle.entries.proofs.Laws.SurveySound.{form_parts, survey_told}
use Rattle.entries.specs.code.SurveyDirty.{kinds_found, found, table_found}

-- ---- the tests of the tallies, from the last item down

abbrev kind_in : List ℕ → ℕ → ℕ → Bool
kind_in notes phase b = kind_test phase (get_or notes (3 * b) 0 % 2 ^ 45)

abbrev owns_in : List ℕ → ℕ → Bool
owns_in notes b = owns_test (get_or notes (3 * b) 0)

-- of those from `item` on
pub record KindsFrom (notes : List ℕ) (items phase item : ℕ) (sound : Bool) (dirty : ℕ) : Type 0 where
  pub tests : every (kind_in notes phase) items ≡ (every (kind_in notes phase) item && sound)
  pub lowest : first (owns_in notes) items ≡ first_else (owns_in notes) item dirty

other_way : (q : Bool) (x y : ℕ) → cond q x y ≡ cond (not q) y x
other_way true x y = refl
other_way false x y = refl

or_again : (m o : Bool) → ((m || o) || o) ≡ ((m || o) || false)
or_again m o = or_assoc m o o ∙ ap (λ q. m || q) (or_self o) ∙ sym (or-false (m || o))

kind_by_lem : (phase t : ℕ) → kind_by (created_tally phase) t ≡ kind_test phase t
kind_by_lem phase t = by_cases (eqb phase 1) (λ e. rw e refl)
    (λ e. rw e (ap (λ q. eqb (t / 32) (2 ^ 20 + 2 ^ 25) || q) (or_again (eqb t (1 + 2 ^ 5 + 2 ^ 10 + 2 ^ 20)) (eqb (t / 32) (1 + 2 ^ 5 + 2 ^ 10)))))

module _ (notes : List ℕ) (items phase : ℕ) where
  pub kinds_start : KindsFrom notes items phase items true items
  kinds_start = record { tests = sym (and-true _); lowest = else_starts (owns_in notes) items }

  pub kinds_turn :
      {m n at created : ℕ} {sound good : Bool} {d r : ℕ} → created ≡ created_tally phase → KindsFrom notes items phase m sound d → m ≡ n + 1 → at ≡ 3 * n
      → good ≡ kind_by created (get_or notes at 0 % 2 ^ 45) → r ≡ cond (owns_test (get_or notes at 0)) n d
      → KindsFrom notes items phase n (sound && good) r
  kinds_turn {n = n} {sound = sound} {good = good} {d = d} c k e p g h = record {
    tests =
        k.tests ∙ every_back (kind_in notes phase) n sound e ((rw (p, c) at g) ∙ kind_by_lem phase (get_or notes (3 * n) 0 % 2 ^ 45))
        ∙ ap (λ q. every (kind_in notes phase) n && q) (and_comm good sound);
    lowest = k.lowest ∙ else_turns (owns_in notes) n d e (rw p at h);
  }

  pub kinds_end :
      {n d : ℕ} {sound : Bool} {r : Option ℕ} → n ≤ 0 → KindsFrom notes items phase n sound d → r ≡ then_some sound d
      → r ≡ kinds_found notes items phase
  unfolding kinds_found
  kinds_end {d = d} {sound = sound} l k h =
      rw (k.tests ∙ every_back_ends (kind_in notes phase) sound l, k.lowest ∙ else_ends (owns_in notes) l)
      (h ∙ by_cases sound (λ e. rw e refl) (λ e. rw e refl))

-- ---- one item: its tally tells whether a live node owns it

module _ (v : View) (b n : ℕ) (few : n < 32) (formed : (m : ℕ) → m < n → live v m ≡ true → codes_form (top_at v b m) ≡ true) where
  owned_count : count (owns_at v b) n ≡ count (live_top (holds_at 2) v b) n + count (live_top (holds_at 3) v b) n
  unfolding owns_at
  owned_count = omega (
    arith,
    count_or n (live v) (λ m. eqb (current (v.entry m b)) owner) (λ m. eqb (current (v.entry m b)) modified)
        (λ m. eqb_apart (current (v.entry m b)) owner modified (λ e. omega arith)),
    count_ext n (has v b 2) (live_top (holds_at 2) v b) (same_has v b n few formed 2),
    count_ext n (has v b 3) (live_top (holds_at 3) v b) (same_has v b n few formed 3),
  )

  tally_owns : owns_test (sum (weight_at v b) n) ≡ ltb (first (owns_at v b) n) n
  tally_owns =
      let e : sum (weight_at v b) n / 2 ^ 15 % 1024 ≡ count (live_top (holds_at 2) v b) n + count (live_top (holds_at 3) v b) n * 2 ^ 5
      = omega (
        arith,
        tally_fields v b n,
        count_le n (live_top holds v b),
        count_le n (live_top (keeps_at 1) v b),
        count_le n (live_top (keeps_at 2) v b),
        count_le n (live_top (holds_at 2) v b),
        count_le n (live_top (holds_at 3) v b),
      ) in
      ap (λ c. not (eqb c 0)) e ∙ ap not (none_of _ _ _ owned_count) ∙ sym (found_counted (owns_at v b) n)

-- ---- what is found of a table

nodes_formed :
    (g : Geometry) (v : View) → nodes_sound g v ≡ true → (n b : ℕ) → n < g.nodes → b < g.items → live v n ≡ true → codes_form (top_at v b n) ≡ true
unfolding nodes_sound node_sound states_form
nodes_formed g v h n b l k e =
    let node = given (live v n) (every_at g.nodes (node_sound g v) h n l) e in
    let form = every_at g.items (λ b. state_form (v.entry n b).state) (both (states_form g v n) node).0 b k in
    (both (low_form (v.entry n b).state) (sym (form_parts (v.entry n b).state) ∙ form)).1

-- rows and kinds together, where the nodes are sound
module _ {g : Geometry} (t : List ℕ) {notes : List ℕ} {rows : Bool} (phase : ℕ) (s : Surveyable g t) (p : RowsSurveyed g (view g t) g.nodes notes rows) where
  pub survey_fails : rows ≡ false → None ≡ found g (view g t) phase
  unfolding found
  survey_fails e = let no : (nodes_sound g (view g t) && items_sound g (view g t) phase) ≡ false = rw e at (sym (survey_told t phase s p refl)) in rw no refl

  pub survey_found : rows ≡ true → kinds_found notes g.items phase ≡ found g (view g t) phase
  unfolding kinds_found found dirty_item dirty owner_of
  survey_found e =
      let v = view g t in
      let told : every (kind_in notes phase) g.items ≡ (nodes_sound g v && items_sound g v phase) = rw e at (survey_told t phase s p refl) in
      by_cases (nodes_sound g v)
      (λ h. let same : first (owns_in notes) g.items ≡ first (dirty g v) g.items =
      first_ext g.items _ (dirty g v) (λ b l.
      ap (λ x. owns_test x) (p.noted.each b l).tally
      ∙ tally_owns v b g.nodes (omega (arith, s.nodes)) (λ m q. nodes_formed g v h m b q l)) in
      rw (same, told) refl)
      (λ h. let no : (nodes_sound g v && items_sound g v phase) ≡ false = rw h refl in rw (told, no) refl)

module _ (g : Geometry) (v : View) where
  pub marks_apart : None ≡ mark_met v g.nodes → None ≡ table_found g v
  unfolding mark_met table_found
  marks_apart h = rw (marks_sound g v) (by_cases (marks_of v g.nodes).equal (λ e. absurd (never (rw e at h))) (λ e. rw e refl))
    where
      never : {m : ℕ} → None ≡ Some m → ⊥
      never e = let z : ◌≡◌ {A = ℕ} 0 1 = cc in omega arith

  module _ {mark : ℕ} (h : Some mark ≡ mark_met v g.nodes) where
    met : ((marks_of v g.nodes).equal ≡ true) × (mark ≡ (marks_of v g.nodes).first)
    unfolding mark_met
    met = by_cases (marks_of v g.nodes).equal
        (λ e. let h' : Some mark ≡ Some (marks_of v g.nodes).first = rw e at h in (e, cc))
        (λ e. let h' : Some mark ≡ None = rw e at h in let z : ◌≡◌ {A = ℕ} 0 1 = cc in absurd (omega arith))

    pub marks_bad : marks_test mark ≡ false → None ≡ table_found g v
    unfolding table_found
    marks_bad b = rw (marks_sound g v, met.0, ← met.1, b) refl

    pub marks_good : marks_test mark ≡ true → found g v (phase_of mark) ≡ table_found g v
    unfolding table_found found
    marks_good b = rw (marks_sound g v, met.0, ← met.1, b) refl
