-- What a sound table is, as facts: forms, agreement of marks, frames, and the kind of each item. And back.
use mathlib.Core.Path.{◌≡◌, sym, ap₂, ◌∙◌}
use mathlib.Core.Bool.{true, ◌&&◌}
use Prim.Native.Nat.{ℕ, ◌-◌, ◌^◌, ◌<◌, ◌≤◌}
use native.Mathlib.Omega.{arith}
use lib.Dec.{leb, ltb, eqb}
use borrow.Author.Tests.{eqb-true, eqb-false, not-true, eq-eqb, ltb-true, lt-ltb, leb-true, le-leb}
use Rattle.counting.proofs.Laws.Tests.{both, and_both, given, implies}
use Rattle.counting.proofs.Laws.Counting.{every_at, every_all}
use Rattle.counting.proofs.Laws.Values.{values_equal, equal_values, values_seen}
use Rattle.table.specs.declared.geometry.Geometry.{Geometry}
use Rattle.table.specs.Words.{state_form, mark_form, mark_word, phase_of, number_of}
use Rattle.table.proofs.Laws.Forms.{live_mark}
use Rattle.table.specs.View.{View, live}
use Rattle.entries.specs.Frames.{sets_of, set_frames, used, frames_fit}
use Rattle.entries.specs.Sound.{marks_form, phases_of, points_of, marks_agree, states_form, node_sound, nodes_sound, item_sound, items_sound, sound}
use Rattle.entries.proofs.Laws.Kinds.{Kind}
use Rattle.entries.proofs.Laws.KindFacts.{item_kind}
use Rattle.entries.proofs.Laws.KindTests.{kind_test_lem}
use Rattle.entries.proofs.Laws.Back.{kind_pair}

pub record SoundTable (g : Geometry) (v : View) (phase number : ℕ) : Type 0 where
  pub marks : (n : ℕ) → n < g.nodes → mark_form (v.mark n) ≡ true
  pub phases : (n : ℕ) → n < g.nodes → live v n ≡ true → phase_of (v.mark n) ≡ phase
  pub numbers : (n : ℕ) → n < g.nodes → live v n ≡ true → number_of (v.mark n) ≡ number
  pub phase_low : phase < 2
  pub number_room : phase ≡ 1 → number < 2 ^ 32 - 1
  pub forms : (n b : ℕ) → n < g.nodes → b < g.items → live v n ≡ true → state_form (v.entry n b).state ≡ true
  pub frames : (n s : ℕ) → n < g.nodes → s < sets_of g → live v n ≡ true → used g v n s ≤ set_frames g
  pub items : (b : ℕ) → b < g.items → Kind phase v g.nodes b

module _ (g : Geometry) (v : View) where
  -- the phase and the number of the live marks
  abbrev pub phase_in : ℕ
  phase_in = (phases_of v g.nodes).first

  abbrev pub number_in : ℕ
  number_in = (points_of v g.nodes).first

  pub sound_facts : sound g v ≡ true → SoundTable g v phase_in number_in
  unfolding sound marks_form phases_of points_of nodes_sound node_sound states_form frames_fit items_sound item_sound
  sound_facts h =
      let h₁ = both (marks_form v g.nodes) h in
      let h₂ = both (marks_agree (phases_of v g.nodes) (points_of v g.nodes)) h₁.1 in
      let h₃ = both (nodes_sound g v) h₂.1 in
      let a₁ = both (phases_of v g.nodes).equal h₂.0 in
      let a₂ = both (points_of v g.nodes).equal a₁.1 in
      let a₃ = both (ltb phase_in 2) a₂.1 in
      let node : (n : ℕ) → n < g.nodes → live v n ≡ true → (states_form g v n && frames_fit g v n) ≡ true =
      λ n l t. given (live v n) (every_at g.nodes (node_sound g v) h₃.0 n l) t in
      record {
        marks = every_at g.nodes (λ n. mark_form (v.mark n)) h₁.0;
        phases = values_equal g.nodes (live v) (λ n. phase_of (v.mark n)) a₁.0;
        numbers = values_equal g.nodes (live v) (λ n. number_of (v.mark n)) a₂.0;
        phase_low = ltb-true _ 2 a₃.0;
        number_room = λ e. ltb-true _ (2 ^ 32 - 1) (given (eqb phase_in 1) a₃.1 (eq-eqb _ 1 e));
        forms = λ n b l k t. every_at g.items (λ b. state_form (v.entry n b).state) (both (states_form g v n) (node n l t)).0 b k;
        frames = λ n s l k t. leb-true _ (set_frames g) (every_at (sets_of g) (λ s. leb (used g v n s) (set_frames g)) (both (states_form g v n) (node n l t)).1 s k);
        items = λ b k. item_kind v g.nodes b _ (every_at g.items (item_sound g v phase_in) h₃.1 b k);
      }

  module _ (phase number : ℕ) (s : SoundTable g v phase number) (some : 0 < g.items) where
    -- a live node: one that holds a recovery copy of the first item
    abbrev keeper : ℕ
    keeper = (kind_pair v g.nodes 0 phase (s.items 0 some)).one

    keeper_in : keeper < g.nodes
    keeper_in = (kind_pair v g.nodes 0 phase (s.items 0 some)).first.within

    keeper_live : live v keeper ≡ true
    keeper_live = (both (live v keeper) (kind_pair v g.nodes 0 phase (s.items 0 some)).first.holds).0

    pub facts_phase : phase_in ≡ phase
    unfolding phases_of
    facts_phase = (equal_values g.nodes (live v) _ phase s.phases).1 (values_seen g.nodes (live v) _ keeper keeper_in keeper_live)

    pub facts_number : number_in ≡ number
    unfolding points_of
    facts_number = (equal_values g.nodes (live v) _ number s.numbers).1 (values_seen g.nodes (live v) _ keeper keeper_in keeper_live)

    agree : marks_agree (phases_of v g.nodes) (points_of v g.nodes) ≡ true
    unfolding phases_of points_of
    agree =
        and_both (equal_values g.nodes (live v) _ phase s.phases).0
        (and_both (equal_values g.nodes (live v) _ number s.numbers).0
        (and_both (lt-ltb phase_in 2 (omega (arith, facts_phase, s.phase_low)))
        (implies (eqb phase_in 1) (λ e. lt-ltb number_in (2 ^ 32 - 1)
        (omega (arith, facts_number, s.number_room (sym facts_phase ∙ eqb-true phase_in 1 e)))))))

    pub facts_sound : sound g v ≡ true
    unfolding sound marks_form nodes_sound node_sound states_form frames_fit items_sound item_sound
    facts_sound =
        and_both (every_all g.nodes _ s.marks)
        (and_both agree
        (and_both
        (every_all g.nodes (node_sound g v) (λ n l. implies (live v n) (λ t. and_both
        (every_all g.items (λ b. state_form (v.entry n b).state) (λ b k. s.forms n b l k t))
        (every_all (sets_of g) (λ s. leb (used g v n s) (set_frames g)) (λ x k. le-leb (used g v n x) (set_frames g) (s.frames n x l k t))))))
        (every_all g.items (item_sound g v phase_in) (λ b k. rw facts_phase (kind_test_lem v g.nodes b phase (s.items b k))))))

-- "live marks agree in phase and number": they are one word
pub sound_mark :
    (g : Geometry) (v : View) (phase number : ℕ) → SoundTable g v phase number → (n : ℕ) → n < g.nodes → live v n ≡ true
    → v.mark n ≡ mark_word phase number
sound_mark g v phase number s n l t =
    (live_mark (v.mark n) (s.marks n l) (eqb-false (v.mark n) 0 (not-true (eqb (v.mark n) 0) t))).0
    ∙ ap₂ mark_word (s.phases n l t) (s.numbers n l t)
