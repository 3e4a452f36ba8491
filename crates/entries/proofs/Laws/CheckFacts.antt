-- What an accepted table is: its geometry, its length and its soundness, as facts; each item has exactly two recovery copies. And back: a table
-- with these facts is accepted.
use Rattle.std.specs.Prelude.{Err, None, Ok, Option, Result, Some}
use Prim.Native.Nat.{ℕ, ◌/◌, ◌%◌, ◌^◌, ◌<◌, ◌≤◌}
use mathlib.Core.Logic.{◌≢◌, ◌⊎◌}
use mathlib.Core.Path.{◌≡◌, refl, sym, ap, ◌∙◌}
use mathlib.Core.Bool.{true}
use mathlib.Core.List.{List}
use native.Mathlib.Omega.{arith}
use lib.Dec.{leb, eqb}
use lib.ListN.{length, get_or}
use borrow.Author.Tests.{eqb-true, leb-true}
use Rattle.counting.proofs.Laws.Tests.{both, by_cases}
use Rattle.table.specs.declared.geometry.Geometry.{Geometry}
use Rattle.table.specs.declared.answers.Refusal.{Refusal}
use Rattle.table.specs.Words.{size_word, size_form, nodes_of, items_of, frames_of}
use Rattle.table.proofs.Laws.Words.{size_parts, nodes_size, items_size, frames_size}
use Rattle.table.proofs.Laws.Forms.{form_facts, size_form_lem}
use Rattle.table.specs.Geometry.{allowed, in_ranges, words_of}
use Rattle.table.proofs.Laws.Geometry.{Sized, sized, made_allowed, allowed_made}
use Rattle.table.specs.View.{View, view, live}
use Rattle.entries.specs.Sound.{sound}
use Rattle.entries.specs.Check.{made_of, length_of, sizes_of, sound_of, fault_of}
use Rattle.entries.proofs.Laws.Check.{sizes_passed}
use Rattle.entries.proofs.Laws.Back.{Pair, back_number, kind_pair, pair_only}
use Rattle.entries.specs.code.SurveySound.{Surveyable}
use Rattle.entries.proofs.Laws.SoundFacts.{SoundTable, phase_in, number_in, sound_facts, facts_sound}

-- ---- checks 1, 3, 1

-- word 0 holds an allowed geometry, and the table is long enough for it
pub record Shape (t : List ℕ) (g : Geometry) : Type 0 where
  pub word : get_or t 0 0 ≡ size_word g.nodes g.items g.frames
  pub fair : allowed g.nodes g.items g.frames ≡ true
  pub sizes : Sized g.nodes g.items g.frames
  pub long : words_of g ≤ length t

never_passed : {x : Refusal} {g : Geometry} → Err x ≡ Ok g → ⊥
never_passed e = let z : ◌≡◌ {A = ℕ} 0 1 = cc in omega arith

pub sizes_facts : (t : List ℕ) (g : Geometry) → sizes_of t ≡ Ok g → Shape t g
unfolding sizes_of length_of
sizes_facts t g h = by_cases (eqb (length t) 0) (λ e. absurd (never_passed (rw e at h)))
    (λ e. by_cases (size_form w)
    (λ f. from_made f (made_of t) refl (rw (e, f) at h))
    (λ f. absurd (never_passed (rw (e, f) at h))))
  where
    w : ℕ
    w = get_or t 0 0

    from_made : size_form w ≡ true → (m : Option Geometry) → m ≡ made_of t → length_of t m ≡ Ok g → Shape t g
    from_made f None q k = absurd (never_passed k)
    from_made f (Some a) q k = by_cases (leb (words_of a) (length t))
        (λ l. let k' : Ok a ≡ Ok g = rw l at k in
        let same : a ≡ g = cc in
        let mk = made_allowed (nodes_of w) (items_of w) (frames_of w) a (sym q) in
        let e : g ≡ record { nodes = nodes_of w; items = items_of w; frames = frames_of w } = sym same ∙ mk.1 in
        let p = both (eqb (w / 2 ^ 60) 0) f in
        record {
          word = rw e (size_parts w (eqb-true (w / 2 ^ 60) 0 p.0) (eqb-true (w % 2 ^ 36) 0 p.1));
          fair = rw e mk.0;
          sizes = rw e (sized _ _ _ (both (in_ranges (nodes_of w) (items_of w) (frames_of w)) mk.0).0);
          long = rw same at (leb-true (words_of a) (length t) l);
        })
        (λ l. absurd (never_passed (rw l at k)))

pub sizes_surveyable : (t : List ℕ) (g : Geometry) → sizes_of t ≡ Ok g → Surveyable g t
sizes_surveyable t g h =
    let s = sizes_facts t g h in
    record { words = s.long; nodes = s.sizes.nodes_high; items = s.sizes.items_high; frames = s.sizes.frames_high }

pub facts_sizes : (t : List ℕ) (g : Geometry) → Shape t g → sizes_of t ≡ Ok g
facts_sizes t g s =
    let hn : g.nodes < 2 ^ 5 = omega (arith, s.sizes) in
    let hm : g.items < 2 ^ 9 = omega (arith, s.sizes) in
    let hf : g.frames < 2 ^ 10 = omega (arith, s.sizes) in
    sym (sizes_passed t (omega (arith, s.long)) (rw s.word (size_form_lem _ _ _ hn hm hf)) g
    (rw (s.word, nodes_size g.nodes g.items g.frames hn hm hf, items_size g.nodes g.items g.frames hn hm hf, frames_size g.nodes g.items g.frames hn hm hf)
    (allowed_made g.nodes g.items g.frames s.fair))
    s.long)

-- ---- and 2

pub record Accepted (t : List ℕ) (g : Geometry) (phase number : ℕ) : Type 0 where
  pub shape : Shape t g
  pub table : SoundTable g (view g t) phase number

module _ (t : List ℕ) (g : Geometry) where
  pub accepted_facts : fault_of t ≡ Ok g → Accepted t g (phase_in g (view g t)) (number_in g (view g t))
  unfolding fault_of sound_of
  accepted_facts h = from_sizes (sizes_of t) refl h
    where
      from_sizes : (s : Result Geometry Refusal) → s ≡ sizes_of t → sound_of t s ≡ Ok g → Accepted t g (phase_in g (view g t)) (number_in g (view g t))
      from_sizes (Err x) e h = absurd (never_passed h)
      from_sizes (Ok a) e h = by_cases (sound a (view a t))
          (λ y. let h' : Ok a ≡ Ok g = rw y at h in
          let same : a ≡ g = cc in
          let all : Accepted t a (phase_in a (view a t)) (number_in a (view a t)) =
          record { shape = sizes_facts t a (sym e); table = sound_facts a (view a t) y } in
          rw same at all)
          (λ y. absurd (never_passed (rw y at h)))

  pub facts_accepted : (phase number : ℕ) → Accepted t g phase number → fault_of t ≡ Ok g
  unfolding fault_of sound_of
  facts_accepted phase number k =
      let sz = k.shape.sizes in
      ap (sound_of t) (facts_sizes t g k.shape) ∙ rw (facts_sound g (view g t) phase number k.table (omega arith)) refl

-- each item has its two recovery copies, of equal value, on two live nodes; and no live node has a third
module _ (g : Geometry) (v : View) (phase number : ℕ) (s : SoundTable g v phase number) where
  pub sound_pair : (b : ℕ) → b < g.items → Pair v g.nodes b
  sound_pair b h = kind_pair v g.nodes b phase (s.items b h)

  pub sound_holders :
      (b : ℕ) (h : b < g.items) (n : ℕ) → n < g.nodes → live v n ≡ true → back_number v b n ≢ 0
      → (n ≡ (sound_pair b h).one) ⊎ (n ≡ (sound_pair b h).two)
  unfolding sound_pair
  sound_holders b h n l t d = pair_only v g.nodes b (sound_pair b h) n l t (form_facts (v.entry n b).state (s.forms n b l h t)).kept_code d
