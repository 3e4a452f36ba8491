-- A call that stores no mark keeps the table sound: what must be shown is the kind of each item.
use Prim.Native.Nat.{ℕ, ◌<◌}
use mathlib.Core.Path.{◌≡◌, refl, sym, ap, ap₂, ◌∙◌}
use mathlib.Core.Logic.{◌≢◌}
use mathlib.Core.Bool.{true, not, ◌&&◌}
use mathlib.Core.List.{List, [], ◌∷◌, map}
use native.Mathlib.Omega.{arith}
use lib.Dec.{eqb}
use borrow.Author.Tests.{eqb-false, ne_eqb, not-true}
use Rattle.counting.proofs.Laws.Tests.{both, and_same}
use Rattle.counting.proofs.Laws.Counting.{only_same}
use Rattle.table.specs.declared.geometry.Geometry.{Geometry}
use Rattle.table.specs.Words.{mark_form, phase_of, number_of, shared_ck1, inv_ck1, inv_ck2}
use Rattle.table.specs.Stores.{Change, Store, entry_store, address_of, after}
use Rattle.table.proofs.Laws.Stores.{All, none, more, all_runs, after_length, after_off}
use Rattle.table.specs.View.{View, live, current, kept, pass}
use Rattle.table.specs.Copies.{copy_number, copy_value, back_copy}
use Rattle.table.proofs.Laws.Copies.{back_number_lem, back_value_lem}
use Rattle.entries.specs.Tally.{has_kept, kept_copy}
use Rattle.entries.proofs.Laws.Kinds.{Saved, Kind}
use Rattle.entries.proofs.Laws.Back.{Pair, back_number, back_value, has_back}
use Rattle.entries.proofs.Laws.Sharers.{kind_left}
use Rattle.entries.proofs.Laws.SoundFacts.{SoundTable}
use Rattle.entries.proofs.Laws.CheckFacts.{Shape}
use Rattle.homes.proofs.Laws.Kept.{Kept, Held, kept_held, test_live}

-- ---- word 0 is stored by no call but Format

-- a store that is not at word 0
abbrev pub Off : Geometry → Store → Type 0
Off g s = 0 ≢ address_of g s

one_off : (g : Geometry) (n b : ℕ) (c : Change) → Off g (entry_store n b c)
one_off g n b c e = omega arith

pub entry_off : (g : Geometry) (n b : ℕ) (cs : List Change) → All (Off g) (map (entry_store n b) cs)
entry_off g n b [] = none
entry_off g n b (c ∷ cs) = more (one_off g n b c) (entry_off g n b cs)

pub pass_off : (g : Geometry) (nd it : ℕ → ℕ) (changes : ℕ → List Change) (n : ℕ) → All (Off g) (pass nd it changes n)
pass_off g nd it changes n = all_runs _ n (λ k l. entry_off g (nd k) (it k) (changes k))

pub shape_after : (g : Geometry) (limit : ℕ) {ss : List Store} (t : List ℕ) → All (Off g) ss → Shape t g → Shape (after g limit ss t) g
shape_after g limit {ss} t a s =
    record { word = after_off g 0 limit t a ∙ s.word; fair = s.fair; sizes = s.sizes; long = rw (after_length g limit ss t) s.long }

-- ---- an item of which no entry has changed

pub kind_same :
    (v w : View) (N b phase : ℕ) → w.mark ≡ v.mark → ((k : ℕ) → k < N → w.entry k b ≡ v.entry k b) → Kind phase v N b → Kind phase w N b
kind_same v w N b phase m e =
    kind_left v w N b
    (record {
      mark = λ k l. ap (λ f. f k) m;
      codes = λ k code l _. ap (λ x. eqb (current x) code) (e k l);
      kept = λ k l. ap kept (e k l);
      kept_value = λ k l. ap (λ x. x.kept_value) (e k l);
    })
    (record { left = λ k l _. (ap current (e k l), ap (λ x. x.value) (e k l)) }) phase

-- ---- an item whose recovery copies are as they were, and now all kept

module _
    (v w : View) (N b : ℕ) (marks : w.mark ≡ v.mark)
    (back : (k : ℕ) → k < N → live v k ≡ true → back_copy (w.entry k b) ≡ back_copy (v.entry k b))
    (low : (k : ℕ) → k < N → live v k ≡ true → current (w.entry k b) < shared_ck1) where
  live_same : (k : ℕ) → live w k ≡ live v k
  live_same k = ap (λ f. not (eqb (f k) 0)) marks

  number_kept : (k : ℕ) → k < N → live v k ≡ true → back_number v b k ≡ kept (w.entry k b)
  number_kept k l t =
      let h = low k l t in
      sym (ap copy_number (back k l t)) ∙ back_number_lem (w.entry k b)
      ∙ rw (ne_eqb (current (w.entry k b)) 4 (λ z. omega arith), ne_eqb (current (w.entry k b)) 5 (λ z. omega arith)) refl

  value_kept : (k : ℕ) → k < N → live v k ≡ true → back_number v b k ≢ 0 → (w.entry k b).kept_value ≡ back_value v b k
  value_kept k l t d =
      let h = low k l t in
      let r : back_value w b k ≡ (w.entry k b).kept_value =
      back_value_lem (w.entry k b) (λ z. d (sym (ap copy_number (back k l t)) ∙ z))
      ∙ rw (ne_eqb (current (w.entry k b)) 4 (λ z. omega arith), ne_eqb (current (w.entry k b)) 5 (λ z. omega arith)) refl in
      sym r ∙ ap copy_value (back k l t)

  has_kept_lem : (i k : ℕ) → k < N → has_back v b i k ≡ has_kept w b i k
  has_kept_lem i k l =
      and_same (live v k) (eqb (back_number v b k) i) (eqb (kept (w.entry k b)) i) (λ t. ap (λ y. eqb y i) (number_kept k l t))
      ∙ ap (λ a. a && eqb (kept (w.entry k b)) i) (sym (live_same k))

  pub pair_saved : Pair v N b → Saved w N b
  pair_saved p = record {
    one = p.one;
    two = p.two;
    value = p.value;
    first = only_same N (has_back v b 1) (has_kept w b inv_ck1) p.one (has_kept_lem 1) p.first;
    second = only_same N (has_back v b 2) (has_kept w b inv_ck2) p.two (has_kept_lem 2) p.second;
    values = λ k l t.
        let h = both (live w k) t in
        let a : live v k ≡ true = sym (live_same k) ∙ h.0 in
        let d : back_number v b k ≢ 0 =
        λ z. eqb-false (kept (w.entry k b)) 0 (not-true (eqb (kept (w.entry k b)) 0) h.1) (sym (number_kept k l a) ∙ z) in
        value_kept k l a d ∙ p.values k l a d;
  }

-- ---- an item whose kept copies are as they were

module _ (v w : View) (N b : ℕ) (marks : w.mark ≡ v.mark) where
  pub saved_kept :
      ((k : ℕ) → k < N → kept (w.entry k b) ≡ kept (v.entry k b)) → ((k : ℕ) → k < N → (w.entry k b).kept_value ≡ (v.entry k b).kept_value)
      → Saved v N b → Saved w N b
  saved_kept h x s = record {
    one = s.one;
    two = s.two;
    value = s.value;
    first = only_same N (has_kept v b inv_ck1) (has_kept w b inv_ck1) s.one (has_same inv_ck1) s.first;
    second = only_same N (has_kept v b inv_ck2) (has_kept w b inv_ck2) s.two (has_same inv_ck2) s.second;
    values = λ k l t. x k l ∙ s.values k l (keep_same k l ∙ t);
  }
    where
      live_same : (k : ℕ) → live v k ≡ live w k
      live_same k = ap (λ f. not (eqb (f k) 0)) (sym marks)

      has_same : (code k : ℕ) → k < N → has_kept v b code k ≡ has_kept w b code k
      has_same code k l = ap₂ ◌&&◌ (live_same k) (ap (λ c. eqb c code) (sym (h k l)))

      keep_same : (k : ℕ) → k < N → kept_copy v b k ≡ kept_copy w b k
      keep_same k l = ap₂ ◌&&◌ (live_same k) (ap (λ c. not (eqb c 0)) (sym (h k l)))

-- ---- the table

pub sound_held :
    (g : Geometry) (v w : View) (phase number : ℕ) → SoundTable g v phase number → Held g v w
    → ((b : ℕ) → b < g.items → Kind phase w g.nodes b) → SoundTable g w phase number
sound_held g v w phase number s k items = record {
  marks = λ n l. ap (λ f. mark_form (f n)) k.marks ∙ s.marks n l;
  phases = λ n l t. ap (λ f. phase_of (f n)) k.marks ∙ s.phases n l (was n t);
  numbers = λ n l t. ap (λ f. number_of (f n)) k.marks ∙ s.numbers n l (was n t);
  phase_low = s.phase_low;
  number_room = s.number_room;
  forms = λ n b l h t. k.forms n b (test_live g v n l (was n t)) h;
  frames = λ n x l h t. k.frames n x (test_live g v n l (was n t)) h;
  items = items;
}
  where
    was : (n : ℕ) → live w n ≡ true → live v n ≡ true
    was n t = sym (ap (λ f. not (eqb (f n) 0)) k.marks) ∙ t

pub sound_kept :
    (g : Geometry) (v w : View) (phase number : ℕ) → SoundTable g v phase number → Kept g v w
    → ((b : ℕ) → b < g.items → Kind phase w g.nodes b) → SoundTable g w phase number
sound_kept g v w phase number s k = sound_held g v w phase number s (kept_held g v w k)
