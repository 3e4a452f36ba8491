-- The laws of `specs/code/SurveySound.antt`.
use Prim.Native.Nat.{ℕ, ◌+◌, ◌*◌, ◌/◌, ◌%◌, ◌^◌, ◌<◌, ◌≤◌}
use mathlib.Core.Path.{◌≡◌, refl, sym, ap, ap₂, ◌∙◌}
use mathlib.Core.Bool.{Bool, true, false, not, ◌&&◌}
use mathlib.Core.List.{List}
use native.Mathlib.Omega.{arith}
use lib.Dec.{eqb, leb, ltb}
use lib.ListN.{length, get_or}
use borrow.Author.Tests.{eq-eqb, ne_eqb, lt-leb, lt-ltb, le-ltb, ltb-true, ltb-false}
use Rattle.counting.proofs.Laws.Tests.{no_both, both, and_both, by_cases, bool_iff, given, implies}
use Rattle.counting.specs.Counting.{every, sum, one}
use Rattle.counting.proofs.Laws.Counting.{every_none, every_next, every_at, every_all, every_ext, sum_ext}
use Rattle.counting.proofs.Laws.Crowded.{sum_at, sum_most}
use Rattle.table.specs.declared.geometry.Geometry.{Geometry}
use Rattle.table.specs.Words.{state_form, current_of}
use Rattle.table.specs.View.{View, view, live}
use Rattle.counting.specs.Values.{values_of}
use Rattle.entries.specs.declared.survey.Turn.{Turn}
use Rattle.entries.specs.Frames.{sets_of, set_frames, frames_in, frames_at, used, frames_fit}
use Rattle.entries.proofs.Laws.Frames.{set_there, frames_here}
use Rattle.entries.specs.Sound.{states_form, node_sound, nodes_sound, item_sound, items_sound}
use Rattle.entries.specs.code.Survey.{top_at, codes_form, holds, holds_at, keeps_at, frames_by, weight_of, weight_at, held_values, kept_values, Noted, agrees_at, low_form, kind_test}
use Rattle.entries.specs.code.SurveyRow.{RowReady, RowNoted}
use Rattle.entries.specs.code.Row.{top_of}
use Rattle.entries.proofs.Laws.Row.{one_set, mark_there}
use Rattle.entries.proofs.Laws.SurveyFields.{weight_frames, frames_two}
use Rattle.entries.proofs.Laws.SurveyStep.{noted_dead, agrees_dead, agrees_all}
use Rattle.entries.proofs.Laws.SurveyKinds.{kind_tells}
use Rattle.entries.specs.code.SurveySound.{fits_test, row_test, Surveyable, Surveying, RowSurveyed, RowsSurveyed, RowFrames}

-- ---- the tests of the code

unfoldable pub kinds_test : Geometry → View → ℕ → Bool
kinds_test g v phase = every (λ b. kind_test phase (sum (weight_at v b) g.nodes % 2 ^ 45)) g.items

-- ---- forms

pub form_parts : (w : ℕ) → state_form w ≡ (low_form w && codes_form (top_of w))
unfolding codes_form
form_parts w = let e : current_of w ≡ top_of w / 4 = omega arith in rw e refl

-- ---- the frames of a row, by the weights of its entries

far_form : (top : ℕ) → 64 ≤ top → codes_form top ≡ false
unfolding codes_form
far_form top h = rw (le-ltb (top / 4) 8 (omega arith)) refl

far_frames : (top : ℕ) → 64 ≤ top → weight_of top / 2 ^ 45 ≡ frames_by top + one (not (codes_form top)) * 1024
unfolding weight_of holds keeps_at holds_at frames_by
far_frames top h = rw (far_form top h) refl

frames_any : (top : ℕ) → weight_of top / 2 ^ 45 ≡ frames_by top + one (not (codes_form top)) * 1024
frames_any top = by_cases (ltb top 64) (λ e. weight_frames top (ltb-true top 64 e)) (λ e. far_frames top (ltb-false top 64 e))

module _ (g : Geometry) (v : View) (n frames : ℕ) (p : RowFrames g v n frames) where
  abbrev term : ℕ → ℕ
  term b = weight_of (top_at v b n) / 2 ^ 45

  formed_term : (b : ℕ) → codes_form (top_at v b n) ≡ true → term b ≡ frames_by (top_at v b n)
  formed_term b e = omega (arith, frames_any (top_at v b n), ap (λ q. one (not q)) e)

  -- under 1024 if no codes are out of form
  forms_few : ltb frames 1024 ≡ every (λ b. codes_form (top_at v b n)) g.items
  forms_few = bool_iff _ _
      (λ h. every_all g.items (λ b. codes_form (top_at v b n)) (λ b k. by_cases (codes_form (top_at v b n)) (λ e. e)
      (λ e. absurd (omega (arith, ltb-true frames 1024 h, p.sums, sum_at g.items term b k, frames_any (top_at v b n), ap (λ q. one (not q)) e)))))
      (λ h. lt-ltb frames 1024 (omega (
        arith,
        p.sums,
        p.items,
        sum_most g.items 2 term
            (λ b k. omega (arith, formed_term b (every_at g.items (λ b. codes_form (top_at v b n)) h b k), frames_two (top_at v b n))),
      )))

  frames_used : sets_of g ≡ 1 → every (λ b. codes_form (top_at v b n)) g.items ≡ true → sum term g.items ≡ used g v n 0
  unfolding used frames_by frames_in
  frames_used o h = sum_ext g.items term (frames_at g v n 0) (λ b k.
      let e = every_at g.items (λ b. codes_form (top_at v b n)) h b k in
      let c : current_of (v.entry n b).state ≡ top_at v b n / 4 = omega arith in
      frames_here g v n 0 b refl (omega (arith, o, set_there g b)) (formed_term b e ∙ rw (e, c) refl))

  -- a node whose frames are one set
  pub fits_one : sets_of g ≡ 1 → leb frames (set_frames g) ≡ fits_test g v n
  unfolding fits_test
  fits_one o = by_cases (every (λ b. codes_form (top_at v b n)) g.items)
      (λ h. rw h (ap (λ k. leb k (set_frames g)) (p.sums ∙ frames_used o h) ∙ sym (one_set g v n o)))
      (λ h. rw h (lt-leb frames (set_frames g) (omega (arith, p.room, ltb-false frames 1024 (forms_few ∙ h)))))

  -- whatever the sets
  pub fits_sets : (ltb frames 1024 && frames_fit g v n) ≡ fits_test g v n
  unfolding fits_test
  fits_sets = ap (λ q. q && frames_fit g v n) forms_few

-- ---- the survey tells both

module _ (g : Geometry) (v : View) (few : g.nodes < 32) (phase : ℕ) where
  -- an item by its tally, where the forms hold
  item_told :
      ((n b : ℕ) → n < g.nodes → b < g.items → live v n ≡ true → codes_form (top_at v b n) ≡ true) → (b : ℕ) → b < g.items
      → item_sound g v phase b ≡ (kind_test phase (sum (weight_at v b) g.nodes % 2 ^ 45) && every (agrees_at v b) g.nodes)
  unfolding item_sound
  item_told h b k =
      kind_tells v b g.nodes few (λ m l. h m b l k) phase
      ∙ ap (λ x. kind_test phase (sum (weight_at v b) g.nodes % 2 ^ 45) && x) (sym (agrees_all v b g.nodes))

  surveyed : (every (row_test g v) g.nodes && kinds_test g v phase) ≡ true → (nodes_sound g v && items_sound g v phase) ≡ true
  unfolding row_test fits_test kinds_test nodes_sound node_sound states_form items_sound
  surveyed h =
      let rows = every_at g.nodes (row_test g v) (both (every (row_test g v) g.nodes) h).0 in
      let row : (n : ℕ) → n < g.nodes → live v n ≡ true → (every (λ b. low_form (v.entry n b).state && agrees_at v b n) g.items && fits_test g v n) ≡ true = λ n l. given (live v n) (rows n l) in
      let fits : (n : ℕ) → n < g.nodes → live v n ≡ true → fits_test g v n ≡ true = λ n l e. (both (every (λ b. low_form (v.entry n b).state && agrees_at v b n) g.items) (row n l e)).1 in
      let at : (n b : ℕ) → n < g.nodes → b < g.items → live v n ≡ true → (low_form (v.entry n b).state && agrees_at v b n) ≡ true =
      λ n b l k e. every_at g.items (λ b. low_form (v.entry n b).state && agrees_at v b n) (both (every (λ b. low_form (v.entry n b).state && agrees_at v b n) g.items) (row n l e)).0 b k in
      let codes : (n b : ℕ) → n < g.nodes → b < g.items → live v n ≡ true → codes_form (top_at v b n) ≡ true =
      λ n b l k e. every_at g.items (λ b. codes_form (top_at v b n)) (both (every (λ b. codes_form (top_at v b n)) g.items) (fits n l e)).0 b k in
      let kinds = every_at g.items (λ b. kind_test phase (sum (weight_at v b) g.nodes % 2 ^ 45)) (both (every (row_test g v) g.nodes) h).1 in
      and_both
      (every_all g.nodes (node_sound g v) (λ n l. implies (live v n) (λ e. and_both
      (every_all g.items (λ b. state_form (v.entry n b).state) (λ b k. form_parts (v.entry n b).state ∙ and_both (both (low_form (v.entry n b).state) (at n b l k e)).0 (codes n b l k e)))
      (both (every (λ b. codes_form (top_at v b n)) g.items) (fits n l e)).1)))
      (every_all g.items (item_sound g v phase) (λ b k. item_told codes b k ∙ and_both (kinds b k)
      (every_all g.nodes (agrees_at v b) (λ n l. by_cases (live v n)
      (λ e. (both (low_form (v.entry n b).state) (at n b l k e)).1)
      (λ e. agrees_dead v b n e)))))

  sound_surveyed : (nodes_sound g v && items_sound g v phase) ≡ true → (every (row_test g v) g.nodes && kinds_test g v phase) ≡ true
  unfolding row_test fits_test kinds_test nodes_sound node_sound states_form items_sound
  sound_surveyed h =
      let nodes = every_at g.nodes (node_sound g v) (both (nodes_sound g v) h).0 in
      let items = every_at g.items (item_sound g v phase) (both (nodes_sound g v) h).1 in
      let node : (n : ℕ) → n < g.nodes → live v n ≡ true → (states_form g v n && frames_fit g v n) ≡ true = λ n l. given (live v n) (nodes n l) in
      let form : (n b : ℕ) → n < g.nodes → b < g.items → live v n ≡ true → (low_form (v.entry n b).state && codes_form (top_at v b n)) ≡ true =
      λ n b l k e. sym (form_parts (v.entry n b).state) ∙ every_at g.items (λ b. state_form (v.entry n b).state) (both (states_form g v n) (node n l e)).0 b k in
      let codes : (n b : ℕ) → n < g.nodes → b < g.items → live v n ≡ true → codes_form (top_at v b n) ≡ true =
      λ n b l k e. (both (low_form (v.entry n b).state) (form n b l k e)).1 in
      let item : (b : ℕ) → b < g.items → (kind_test phase (sum (weight_at v b) g.nodes % 2 ^ 45) && every (agrees_at v b) g.nodes) ≡ true =
      λ b k. sym (item_told codes b k) ∙ items b k in
      and_both
      (every_all g.nodes (row_test g v) (λ n l. implies (live v n) (λ e. and_both
      (every_all g.items (λ b. low_form (v.entry n b).state && agrees_at v b n) (λ b k. and_both (both (low_form (v.entry n b).state) (form n b l k e)).0
      (every_at g.nodes (agrees_at v b) (both (kind_test phase (sum (weight_at v b) g.nodes % 2 ^ 45)) (item b k)).1 n l)))
      (and_both (every_all g.items (λ b. codes_form (top_at v b n)) (λ b k. codes n b l k e)) (both (states_form g v n) (node n l e)).1))))
      (every_all g.items (λ b. kind_test phase (sum (weight_at v b) g.nodes % 2 ^ 45)) (λ b k. (both (kind_test phase (sum (weight_at v b) g.nodes % 2 ^ 45)) (item b k)).0))

  pub survey_tells : (every (row_test g v) g.nodes && kinds_test g v phase) ≡ (nodes_sound g v && items_sound g v phase)
  survey_tells = bool_iff _ _ surveyed sound_surveyed

-- ---- the ways of the code: nothing noted yet

noted_none : (v : View) (b : ℕ) {t f h : ℕ} → t ≡ 0 → Noted v b 0 t f h
unfolding sum held_values kept_values values_of
noted_none v b e = record { tally = e; first = λ s. absurd (no_both s refl); kept = λ s. absurd (no_both s refl) }

pub surveying_starts :
    {g : Geometry} {t list notes : List ℕ} → Surveyable g t → g.items ≤ length list → 3 * g.items ≤ length notes
    → ((i : ℕ) → i < length notes → get_or notes i 0 ≡ 0) → Surveying g t 0 list notes
surveying_starts {g} {t} s r l z = record {
  table = s;
  room = r;
  noted = record { long = l; each = λ b k. noted_none (view g t) b (z (3 * b) (omega arith)) };
}

-- ---- one row

module _ {g : Geometry} {t : List ℕ} {n : ℕ} {list notes : List ℕ} (s : Surveying g t n list notes) {mark : ℕ} (e : mark ≡ (view g t).mark n) where
  pub row_dead : mark ≡ 0 → RowSurveyed g (view g t) n notes true
  unfolding row_test
  row_dead d =
      let l : live (view g t) n ≡ false = ap not (eq-eqb ((view g t).mark n) 0 (sym e ∙ d)) in
      record {
        noted = record { long = s.noted.long; each = λ b k. noted_dead (view g t) b n l (s.noted.each b k) };
        test = rw l refl;
      }

  module _ (d : mark ≡ 0 → ⊥) where
    lives : live (view g t) n ≡ true
    lives = ap not (ne_eqb ((view g t).mark n) 0 (λ z. d (e ∙ z)))

    pub row_ready : RowReady g t n list notes
    row_ready = record {
      words = s.table.words;
      node = mark_there g t n e d;
      nodes = s.table.nodes;
      items = s.table.items;
      lives = lives;
      room = s.room;
      noted = s.noted;
    }

    module _ {notes' : List ℕ} {r : Turn} (p : RowNoted g (view g t) n notes' r) where
      pub row_frames_lem : RowFrames g (view g t) n r.frames
      row_frames_lem = record { items = s.table.items; room = s.table.frames; sums = p.frames }

      pub row_live : {fits : Bool} → fits ≡ fits_test g (view g t) n → RowSurveyed g (view g t) n notes' (eqb r.differ 0 && fits)
      unfolding row_test
      row_live f = record { noted = p.noted; test = rw (lives, p.same, f) refl }

-- ---- row after row

module _ {g : Geometry} (t : List ℕ) where
  pub rows_none : {list notes : List ℕ} → Surveying g t 0 list notes → RowsSurveyed g (view g t) 0 notes true
  rows_none s = record { noted = s.noted; tests = every_none _ }

  module _ {n : ℕ} {notes : List ℕ} {ok : Bool} (p : RowsSurveyed g (view g t) n notes ok) where
    pub rows_on : {list : List ℕ} → Surveyable g t → g.items ≤ length list → Surveying g t n list notes
    rows_on s r = record { table = s; room = r; noted = p.noted }

    pub rows_next : {notes' : List ℕ} {good : Bool} → RowSurveyed g (view g t) n notes' good → RowsSurveyed g (view g t) (n + 1) notes' (ok && good)
    rows_next q = record { noted = q.noted; tests = every_next (row_test g (view g t)) n p.tests q.test }

    pub rows_all : {m : ℕ} → n ≤ m → m ≤ n → RowsSurveyed g (view g t) m notes ok
    rows_all {m} h k = let e : n ≡ m = omega arith in rw e at p

-- ---- rows and kinds

pub survey_told :
    {g : Geometry} (t : List ℕ) {notes : List ℕ} {rows kinds : Bool} (phase : ℕ) → Surveyable g t → RowsSurveyed g (view g t) g.nodes notes rows
    → kinds ≡ every (λ b. kind_test phase (get_or notes (3 * b) 0 % 2 ^ 45)) g.items
    → (rows && kinds) ≡ (nodes_sound g (view g t) && items_sound g (view g t) phase)
unfolding kinds_test
survey_told {g} t {notes} phase s p k =
    ap₂ ◌&&◌ p.tests (k ∙ every_ext g.items _ _ (λ b l. ap (λ x. kind_test phase (x % 2 ^ 45)) (p.noted.each b l).tally))
    ∙ survey_tells g (view g t) (omega (arith, s.nodes)) phase
