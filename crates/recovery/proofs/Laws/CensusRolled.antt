-- What the census tells of the survivors before they roll holds of them rolled: the tallies are those of their Shared-CKs, each recovery copy takes one
-- frame, and where no item has two of one number numbering stores nothing.
use Prim.Native.Nat.{ℕ, zero, suc, ◌*◌, ◌/◌, ◌%◌, ◌^◌, ◌<◌, ◌+◌}
use mathlib.Core.Path.{◌≡◌, refl, sym, ap, ◌∙◌}
use mathlib.Core.Bool.{Bool, true, not}
use mathlib.Core.List.{List, [], map}
use mathlib.Core.Logic.{◌≢◌}
use native.Mathlib.Omega.{arith}
use native.Mathlib.Decide.{ℕ_discrete}
use lib.Dec.{eqb}
use lib.ListN.{get_or}
use borrow.Author.Tests.{ne_eqb}
use Rattle.counting.proofs.Laws.Tests.{by_cases}
use Rattle.counting.specs.Counting.{every, sum, one, count}
use Rattle.counting.proofs.Laws.Counting.{every_at, sum_ext, sum_count}
use Rattle.table.specs.declared.geometry.Geometry.{Geometry}
use Rattle.table.specs.Words.{state_form}
use Rattle.table.specs.Changes.{checkpoint_of}
use Rattle.table.specs.Stores.{entry_store}
use Rattle.table.specs.View.{Entry, View, live, current, updates}
use Rattle.table.specs.Copies.{copy_number}
use Rattle.table.proofs.Laws.Pass.{Each, columns_within}
use Rattle.entries.specs.Frames.{frames_in, used}
use Rattle.entries.proofs.Laws.Frames.{frames_here}
use Rattle.entries.specs.Tally.{has}
use Rattle.homes.proofs.Laws.Kept.{Live, test_live}
use Rattle.checkpoints.specs.Checkpoint.{entries_to}
use Rattle.checkpoints.proofs.Laws.LivePass.{AllPassed, live_each, entries_via}
use Rattle.recovery.specs.Sides.{copy_on, roll_change}
use Rattle.recovery.specs.Numbering.{number_stores}
use Rattle.recovery.specs.code.Notes.{has_on}
use Rattle.recovery.specs.code.Tallies.{number_weight, step_of, copy_weight, nodes_of, tally_of, Tallied, plain}
use Rattle.recovery.proofs.Laws.Tallies.{plain_nothing}
use Rattle.recovery.specs.code.NumberingCode.{Unkept}
use Rattle.recovery.specs.code.Census.{side_weight, held_on}
use Rattle.recovery.proofs.Laws.RollingCode.{runs_empty}
use Rattle.recovery.specs.code.PartnersCode.{AgreesTo}
use Rattle.recovery.proofs.Laws.Ready.{PlainEntry}
use Rattle.recovery.proofs.Laws.PlainSides.{plain_number}
use Rattle.recovery.proofs.Laws.RollEntry.{SafeOn, Rolled, roll_steps}
use Rattle.recovery.proofs.Laws.StagedVia.{via_end}

sum_counts :
    (n : ℕ) (p q : ℕ → Bool) (f : ℕ → ℕ) → ((i : ℕ) → i < n → f i ≡ (one (p i) + 1024 * one (q i)) * step_of i)
    → sum f n ≡ count p n + 1024 * count q n + 2 ^ 20 * sum (λ i. (one (p i) + 1024 * one (q i)) * i) n
unfolding sum count
sum_counts zero p q f h = refl
sum_counts (suc n) p q f h = omega (arith, sum_counts n p q f (λ i l. h i (omega arith)), h n (omega arith), parts (one (p n)) (one (q n)) n)
  where
    parts : (a b i : ℕ) → (a + 1024 * b) * step_of i ≡ a + 1024 * b + 2 ^ 20 * ((a + 1024 * b) * i)
    parts a b i = omega arith

-- ---- a plain entry, by the number of its copy

module _ (e : Entry) {number : ℕ} (h : checkpoint_of (current e) ≡ number) where
  plain_weight : number_weight number ≡ one (eqb (current e) 4) + 1024 * one (eqb (current e) 5)
  plain_weight = elim (ℕ_discrete (current e) 4) [
    | yes c ↦ (let n : number ≡ 1 = sym h ∙ rw c refl in rw (n, c) refl)
    | no c ↦ elim (ℕ_discrete (current e) 5) [
      | yes d ↦ (let n : number ≡ 2 = sym h ∙ rw d refl in rw (n, d) refl)
      | no d ↦ (let n : number ≡ 0 = sym h ∙ rw (ne_eqb _ 4 c, ne_eqb _ 5 d) refl in rw (n, ne_eqb _ 4 c, ne_eqb _ 5 d) refl)
    ]
  ]

  plain_frames : PlainEntry e.value e → frames_in e.state ≡ one (not (eqb number 0))
  unfolding frames_in
  plain_frames p = elim (ℕ_discrete (current e) 0) [
    | yes c ↦ (let n : number ≡ 0 = sym h ∙ rw c refl in rw (n, c, p.nothing) refl)
    | no c ↦ (let n : number ≢ 0 = λ z. p.code c (h ∙ z) in rw (ne_eqb number 0 n, ne_eqb _ 0 c, p.nothing) refl)
  ]

-- ---- the survivors w, rolled

module _ (g : Geometry) (forward : Bool) (w : View) (forms : (n b : ℕ) → Live g w n → b < g.items → state_form (w.entry n b).state ≡ true) where
  abbrev rolled : View
  rolled = updates (entries_to g w (roll_change forward)) w

  ended : Each (live_each g w (roll_change forward) (SafeOn forward) Rolled) w rolled × AllPassed g w (roll_change forward) (SafeOn forward) Rolled w rolled
  ended = via_end
      (entries_via g w (roll_change forward) (SafeOn forward) Rolled
      (λ n b l h. record { copy = refl; form = forms n b l h; frames = omega arith })
      (λ n b l h. roll_steps (w.entry n b) (forms n b l h) forward) w refl)

  rolled_live : (n : ℕ) → live rolled n ≡ live w n
  rolled_live n = ap (λ (m : ℕ → ℕ). not (eqb (m n) 0)) ended.0.marks

  module _ (n b : ℕ) (l : Live g w n) (h : b < g.items) where
    rolled_plain : PlainEntry (rolled.entry n b).value (rolled.entry n b)
    rolled_plain = ended.1.lives n b l h

    rolled_number : checkpoint_of (current (rolled.entry n b)) ≡ copy_number (copy_on forward (w.entry n b))
    rolled_number = sym (plain_number _ (rolled.entry n b) rolled_plain forward) ∙ ap copy_number (ended.0.entries n b l h).copy

  rolled_weight : (n b : ℕ) → n < g.nodes → b < g.items → side_weight forward w b n ≡ copy_weight rolled b n * step_of n
  unfolding side_weight
  rolled_weight n b k h = by_cases (live w n)
      (λ a. rw (rolled_live n, a) (ap (λ x. x * step_of n) (plain_weight (rolled.entry n b) (rolled_number n b (test_live g w n k a) h))))
      (λ a. let z : 0 ≡ 0 * step_of n = omega arith in rw (rolled_live n, a) z)

  pub rolled_tallied : (s : List ℕ) → ((j : ℕ) → j < g.items → get_or s j 0 ≡ sum (side_weight forward w j) g.nodes) → Tallied g rolled s
  unfolding tally_of nodes_of
  rolled_tallied s tally j h = tally j h ∙ sum_counts g.nodes (has rolled j 4) (has rolled j 5) (side_weight forward w j) (λ n k. rolled_weight n j k h)

  pub rolled_unkept : Unkept g rolled
  rolled_unkept n b k h a = (rolled_plain n b (test_live g w n k (sym (rolled_live n) ∙ a)) h).nothing

  rolled_used : (n : ℕ) → Live g w n → held_on g forward w n ≡ used g rolled n 0
  unfolding held_on used
  rolled_used n l =
      sym (sum_count (λ b. has_on forward (w.entry n b)) g.items)
      ∙ sum_ext g.items _ _
      (λ b h. frames_here g rolled n 0 b refl refl (sym (plain_frames (rolled.entry n b) (rolled_number n b l h) (rolled_plain n b l h))))

  pub rolled_agrees : {u : List ℕ} → ((n : ℕ) → n < g.nodes → live w n ≡ true → get_or u n 0 ≡ held_on g forward w n) → AgreesTo g rolled u g.nodes
  rolled_agrees held = record { at = λ n k a. let v = sym (rolled_live n) ∙ a in held n k v ∙ rolled_used n (test_live g w n k v) }

-- ---- no item has two of one number

pub plain_numbers :
    (g : Geometry) (u : View) (s : List ℕ) → g.nodes < 256 → Tallied g u s → Unkept g u → every (λ j. plain (get_or s j 0)) g.items ≡ true
    → number_stores g u ≡ []
unfolding number_stores
plain_numbers g u s small t k all =
    runs_empty (g.items * g.nodes) _
    (λ d h. let (l, hb) = columns_within g.nodes g.items d h in
    let n = d % g.nodes in
    let b = d / g.nodes in
    ap (map (entry_store n b)) (plain_nothing g u b small (t b hb) n l (k n b l hb) (every_at g.items _ all b hb)))
