-- What a formatted table shows: Format's list leaves it, whatever the slice held before, and it is sound, for every
-- allowed geometry.
use mathlib.Core.Path.{◌≡◌, refl, sym, ap, ◌∙◌}
use mathlib.Core.Logic.{◌≢◌}
use mathlib.Core.Bool.{true, not}
use mathlib.Core.List.{List, ◌∷◌, ◌++◌}
use Prim.Native.Nat.{ℕ, zero, suc, ◌+◌, ◌-◌, ◌*◌, ◌/◌, ◌%◌, ◌<◌, ◌≤◌}
use native.Mathlib.Omega.{arith}
use native.Mathlib.Nat.{mod-lt, add-zero}
use lib.Arith.{digits_div, digits_mod, digits_lt}
use lib.Dec.{eqb}
use lib.ListN.{length, get_or, set}
use lib.Seq.{get_or-set_same}
use borrow.Author.Tests.{eq-eqb}
use Rattle.counting.proofs.Laws.Tests.{and_both, and_no}
use Rattle.counting.specs.Counting.{sum}
use Rattle.counting.proofs.Laws.Counting.{sum_ext, Only}
use Rattle.table.specs.declared.geometry.Geometry.{Geometry}
use Rattle.table.specs.Words.{shared_ck1, shared_ck2, state_form, state_word, mark_word, mark_form, phase_of, number_of, size_word}
use Rattle.table.proofs.Laws.Words.{current_state, kept_state}
use Rattle.table.proofs.Laws.Forms.{alone_form}
use Rattle.table.specs.Geometry.{words_of}
use Rattle.table.specs.Stores.{Store, size_store, address_of, word_of, after, runs}
use Rattle.table.proofs.Laws.Stores.{All, none, more, all_then, all_runs, after_off}
use Rattle.table.specs.View.{Entry, View, view, live, current, kept}
use Rattle.table.proofs.Laws.Puts.{put₁_case}
use Rattle.table.proofs.Laws.Via.{Via, done, step, via_then, via_weaken, via_loosen, via_runs, via_whole}
use Rattle.table.proofs.Laws.Pass.{last, next, pass_via, grid_within, grid_once}
use Rattle.entries.specs.Frames.{frames_at, frame_of, frames_in, used}
use Rattle.entries.proofs.Laws.Frames.{frames_state}
use Rattle.entries.specs.Tally.{has}
use Rattle.entries.proofs.Laws.Kinds.{Clean, clean, has_code, copy_code, clean_code}
use Rattle.entries.proofs.Laws.SoundFacts.{SoundTable}
use Rattle.layout.specs.Format.{first_place, first_entry, first_mark, first_entries, format_stores}
use Rattle.layout.specs.Formatted.{fresh_on}
use Rattle.layout.proofs.Laws.FirstPlaces.{first_on, second_on, first_only, second_only, place_clean, place_small, holding, held_fits}

-- an entry of a formatted table
abbrev pub formatted_entry : ℕ → ℕ → ℕ → Entry
formatted_entry N n b = record { state = state_word (first_place N n b) 0; value = 0; kept_value = 0 }

-- what a formatted table shows
pub record FormattedView (g : Geometry) (v : View) : Type 0 where
  pub mark : (n : ℕ) → n < g.nodes → v.mark n ≡ mark_word 0 0
  pub entry : (n b : ℕ) → n < g.nodes → b < g.items → v.entry n b ≡ formatted_entry g.nodes n b

-- ---- the stores leave it

module _ (g : Geometry) where
  marked : ℕ → View → Type 0
  marked i w = (n : ℕ) → n < i → w.mark n ≡ mark_word 0 0

  mark_turn : (i : ℕ) → i < g.nodes → (w : View) → Unit {0} → marked i w → Via g (λ _. Unit {0}) (marked (suc i)) w (first_mark i)
  unfolding marked
  mark_turn i hi w _ m = step tt hi (done tt (λ n l. put₁_case (λ y. y ≡ mark_word 0 0) w.mark i (mark_word 0 0) n (λ _. refl) (λ d. m n (omega arith))))

  marks_via : (v : View) → Via g (λ _. Unit {0}) (marked g.nodes) v (runs first_mark g.nodes)
  unfolding marked
  marks_via v = via_runs marked g.nodes first_mark mark_turn tt (λ n l. absurd (omega arith))

  entries_via : (u : View) → marked g.nodes u → Via g (λ _. Unit {0}) (FormattedView g) u (first_entries g)
  unfolding marked first_entries
  entries_via u m = via_loosen
      (via_weaken
      (pass_via g (λ n b e. Unit {0}) u (λ k. k / g.items) (λ k. k % g.items) (g.nodes * g.items)
      (grid_within g) (λ k d _ _. grid_once g.items k d)
      (λ k e. e ≡ formatted_entry g.nodes (k / g.items) (k % g.items))
      (λ k. first_entry g (k / g.items) (k % g.items)) u
      (λ k l. next tt (next tt (next tt (last tt refl))))
      (record { marks = refl; entries = λ n b. tt }))
      (λ w e p. record {
        mark = λ n l. ap (λ f. f n) e.marks ∙ m n l;
        entry = λ n b l k. rw (digits_div n k, digits_mod n k) at (p.good (n * g.items + b) (digits_lt l k));
      }))
      (λ w _. tt)

  pub format_via : (v : View) → Via g (λ _. Unit {0}) (FormattedView g) v (format_stores g)
  unfolding format_stores
  format_via v = step tt tt (via_then (marks_via v) (λ w _ m. entries_via w m))

-- ---- what it shows is sound

module _ (g : Geometry) (v : View) (f : FormattedView g v) (big : 3 ≤ g.nodes) where
  abbrev N : ℕ
  N = g.nodes

  formatted_live : (n : ℕ) → n < N → live v n ≡ true
  formatted_live n l = ap (λ x. not (eqb x 0)) (f.mark n l)

  module _ (n b : ℕ) (l : n < N) (k : b < g.items) where
    formatted_current : current (v.entry n b) ≡ first_place N n b
    formatted_current = ap current (f.entry n b l k) ∙ current_state (first_place N n b) 0 (omega (arith, place_small N n b)) (omega arith)

    formatted_kept : kept (v.entry n b) ≡ 0
    formatted_kept = ap kept (f.entry n b l k) ∙ kept_state (first_place N n b) 0 (omega (arith, place_small N n b)) (omega arith)

  module _ (b : ℕ) (k : b < g.items) where
    -- a node with a code is the only one with it
    on : (code m : ℕ) → m < N → first_place N m b ≡ code → ((n : ℕ) → first_place N n b ≡ code → n ≡ m) → Only N (has v b code) m
    on code m l e only· = record {
      within = l;
      holds = and_both (formatted_live m l) (eq-eqb (current (v.entry m b)) code (formatted_current m b l k ∙ e));
      alone = λ n h t. only· n (sym (formatted_current n b h k) ∙ has_code v b n code t);
    }

    pub formatted_clean : Clean v N b
    formatted_clean = record {
      one = 2 * b % N;
      two = (2 * b + 1) % N;
      value = 0;
      first = on shared_ck1 (2 * b % N) (mod-lt (2 * b) (omega arith)) (first_on N b (omega arith)) (λ n. first_only N n b);
      second = on shared_ck2 ((2 * b + 1) % N) (mod-lt (2 * b + 1) (omega arith)) (second_on N b (omega arith)) (λ n. second_only N n b);
      others = λ n l t. ap clean_code (formatted_current n b l k) ∙ place_clean N n b (λ z. copy_code v b n t (formatted_current n b l k ∙ z));
      values = λ n l t. ap (λ e. e.value) (f.entry n b l k);
      nothing = λ n l. and_no (live v n) (ap not (eq-eqb (kept (v.entry n b)) 0 (formatted_kept n b l k)));
    }

  -- no node gets more than F of the 2M copies
  formatted_used : (n : ℕ) → n < N → used g v n 0 ≡ sum (holding N n) g.items
  unfolding used frames_at
  formatted_used n l = sum_ext g.items _ (holding N n)
      (λ b k. ap (λ e. frames_in e.state) (f.entry n b l k)
      ∙ frames_state (first_place N n b) 0 (omega (arith, place_small N n b)) (omega arith) ∙ add-zero (frame_of (first_place N n b)))

  pub formatted_sound : 1 ≤ g.frames → 2 * g.items - 1 ≤ (N - 2) * g.frames → SoundTable g v 0 0
  formatted_sound low room = record {
    marks = λ n l. ap mark_form (f.mark n l);
    phases = λ n l _. ap phase_of (f.mark n l);
    numbers = λ n l _. ap number_of (f.mark n l);
    phase_low = omega arith;
    number_room = λ e. absurd (omega arith);
    forms = λ n b l k _. ap (λ e. state_form e.state) (f.entry n b l k) ∙ alone_form (first_place N n b) (place_small N n b);
    frames = λ n s l k _. let z : s ≡ 0 = omega arith in rw z (omega (arith, formatted_used n l, held_fits N g.items g.frames n l big low room));
    items = λ b k. clean (formatted_clean b k);
  }

-- ---- the list on a table

-- all stores but the first leave word 0
first_word :
    (g : Geometry) (limit : ℕ) {ss : List Store} (t : List ℕ) → All (λ s. 0 ≢ address_of g s) ss → 0 < limit → 0 < length t
    → get_or (after g limit (size_store g ∷ ss) t) 0 0 ≡ size_word g.nodes g.items g.frames
unfolding after
first_word g zero t a l k = absurd (omega arith)
first_word g (suc limit) t a l k =
    after_off g 0 limit (set t 0 (word_of (size_store g))) a ∙ get_or-set_same t 0 (word_of (size_store g)) 0 k

format_off : (g : Geometry) → All (λ s. 0 ≢ address_of g s) (runs first_mark g.nodes ++ first_entries g)
unfolding first_entries
format_off g =
    all_then (all_runs first_mark g.nodes (λ i l. more (λ e. omega arith) none))
    (all_runs _ (g.nodes * g.items) (λ k l. more (λ e. omega arith) (more (λ e. omega arith) (more (λ e. omega arith) none))))

module _ (t : List ℕ) (g : Geometry) (long : words_of g ≤ length t) where
  pub list_shows : FormattedView g (view g (fresh_on g t))
  list_shows = via_whole t long (format_via g (view g t)) (length (format_stores g)) (omega arith)

  pub list_word : get_or (fresh_on g t) 0 0 ≡ size_word g.nodes g.items g.frames
  unfolding format_stores
  list_word = first_word g (length (format_stores g)) t (format_off g) (omega arith) (omega arith)
