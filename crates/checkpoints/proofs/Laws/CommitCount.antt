-- THE THEOREM of how long a save is: two stores for each live node, four for each created item, less one where a
-- Precommit and an Inv-CK stand in one entry.
use Rattle.std.specs.Prelude.{Ok}
use Prim.Native.Nat.{ℕ, zero, suc, ◌+◌, ◌*◌, ◌≤◌, ◌<◌, min}
use mathlib.Core.Path.{◌≡◌, refl, sym, ap, ap₂, ◌∙◌}
use mathlib.Core.Bool.{Bool, true, false, cond, not, ◌&&◌, ◌||◌}
use mathlib.Core.List.{List, [], ◌∷◌, ◌++◌, map}
use native.Mathlib.Omega.{arith}
use lib.Dec.{eqb}
use lib.ListN.{length, length-append}
use Rattle.counting.proofs.Laws.Tests.{by_cases, and_same, and_no, eqb_apart}
use Rattle.counting.specs.Counting.{one, sum, count}
use Rattle.counting.proofs.Laws.Counting.{sum_ext, sum_plus, sum_times, sum_count, count_swap, count_zero, count_ext, count_both, count_or, only_counts}
use Rattle.table.specs.declared.geometry.Geometry.{Geometry}
use Rattle.table.specs.declared.answers.Answer.TheVariants.{Done}
use Rattle.table.specs.declared.changes.Event.TheVariants.{Commit}
use Rattle.table.specs.Words.{state_form, invalid, precommit1, precommit2, inv_ck1, inv_ck2}
use Rattle.table.proofs.Laws.Forms.{form_facts}
use Rattle.table.specs.Changes.{change_of}
use Rattle.table.specs.Stores.{Change, state_to, Store, mark_store, entry_store, runs}
use Rattle.table.proofs.Laws.Stores.{runs_sum, nested_flat}
use Rattle.table.specs.View.{View, view, live, current, kept, mark_to, marks_to}
use Rattle.table.specs.Answers.{carry}
use Rattle.entries.specs.Tally.{has, has_kept, kept_copy, counts_of, is_created}
use Rattle.entries.proofs.Laws.Kinds.{clean_code, Clean, Created, Kind, clean, dirty, created}
use Rattle.entries.proofs.Laws.Codes.{two_codes}
use Rattle.entries.proofs.Laws.KindTests.{created_test}
use Rattle.entries.proofs.Laws.SoundFacts.{SoundTable}
use Rattle.homes.proofs.Laws.Plans.{acted_value}
use Rattle.checkpoints.specs.Checkpoint.{is_precommit, live_changes, entries_before, entries_to, commit_change, to_commit}
use Rattle.checkpoints.specs.Commit.{committing_mark, committed_mark, commit_stores, commit_admission, commit_of}
use Rattle.checkpoints.specs.CommitCount.{created_in, created_items, commit_bound, side_by_side, live_side_by_side, commit_length, CommitCounted, CommitCount}
use Rattle.checkpoints.proofs.Laws.KindMoved.{not_precommit}
use Rattle.checkpoints.proofs.Laws.CommitTheorem.{carried, facts}
use Rattle.checkpoints.proofs.Laws.CommitSound.{not_owned}

-- ---- marks

marks_count : (g : Geometry) (v : View) (f : ℕ → ℕ) → length (marks_to g v f) ≡ count (live v) g.nodes
unfolding marks_to mark_to
marks_count g v f = runs_sum (mark_to v f) g.nodes ∙ sum_ext g.nodes _ _ (λ n _. single n (live v n)) ∙ sum_count (live v) g.nodes
  where
    single : (n : ℕ) (q : Bool) → length (cond q (mark_store n (f (v.mark n)) ∷ []) []) ≡ one q
    single n true = refl
    single n false = refl

-- ---- entries

-- "where Precommit or Inv-CK stands", and where both do
abbrev pub stored : View → ℕ → ℕ → Bool
stored v n b = live v n && to_commit (v.entry n b).state

abbrev beside : View → ℕ → ℕ → Bool
beside v n b = live v n && side_by_side (v.entry n b).state

module _ (g : Geometry) (v : View) where
  abbrev stores_at : ℕ → ℕ → List Store
  stores_at n b = map (entry_store n b) (live_changes commit_change v n b)

  at_one : (n b : ℕ) → length (stores_at n b) ≡ one (stored v n b)
  unfolding live_changes commit_change
  at_one n b =
      go (live v n) (to_commit (v.entry n b).state) (state_to (change_of (current (v.entry n b)) Commit) invalid)
    where
      go : (x y : Bool) (c : Change) → length (map (entry_store n b) (cond x (cond y (c ∷ []) []) [])) ≡ one (x && y)
      go true true c = refl
      go true false c = refl
      go false true c = refl
      go false false c = refl

  node_count : (n m : ℕ) → length (runs (stores_at n) m) ≡ count (stored v n) m
  node_count n m = runs_sum (stores_at n) m ∙ sum_ext m _ _ (λ b _. at_one n b) ∙ sum_count (stored v n) m

  entries_count : length (entries_to g v commit_change) ≡ sum (λ n. count (stored v n) g.items) g.nodes
  unfolding entries_before
  entries_count =
      ap length (sym (nested_flat stores_at g.items g.nodes))
      ∙ runs_sum (λ n. runs (stores_at n) g.items) g.nodes
      ∙ sum_ext g.nodes _ _ (λ n _. node_count n g.items)

  -- the marks twice, and the entries
  pub commit_parts :
      length (commit_stores g v) ≡ 2 * count (live v) g.nodes + sum (λ n. count (stored v n) g.items) g.nodes
  unfolding commit_stores
  commit_parts =
      omega (
        arith,
        marks_count g v committing_mark,
        marks_count g v committed_mark,
        entries_count,
        length-append (marks_to g v committing_mark) (entries_to g v commit_change),
        length-append (marks_to g v committing_mark ++ entries_to g v commit_change) (marks_to g v committed_mark),
      )

-- ---- one item

-- the Precommits and the Inv-CKs that live nodes have
abbrev four : View → ℕ → ℕ → ℕ
four v N b =
    (count (has v b precommit1) N + count (has v b precommit2) N)
    + (count (has_kept v b inv_ck1) N + count (has_kept v b inv_ck2) N)

kept_two : (k : ℕ) → k < 3 → not (eqb k invalid) ≡ (eqb k inv_ck1 || eqb k inv_ck2)
kept_two zero h = refl
kept_two (suc zero) h = refl
kept_two (suc (suc zero)) h = refl
kept_two (suc (suc (suc k))) h = absurd (omega arith)

module _ (v : View) (N b : ℕ) (forms : (n : ℕ) → n < N → live v n ≡ true → state_form (v.entry n b).state ≡ true) where
  pub keeps_two : count (kept_copy v b) N ≡ count (has_kept v b inv_ck1) N + count (has_kept v b inv_ck2) N
  keeps_two =
      let k : ℕ → ℕ = λ n. kept (v.entry n b) in
      count_ext N (kept_copy v b) (λ n. live v n && (eqb (k n) inv_ck1 || eqb (k n) inv_ck2))
      (λ n l. and_same (live v n) _ _ (λ t. kept_two (k n) (form_facts (v.entry n b).state (forms n l t)).kept_code))
      ∙ count_or N (live v) (λ n. eqb (k n) inv_ck1) (λ n. eqb (k n) inv_ck2)
      (λ n. eqb_apart (k n) inv_ck1 inv_ck2 (λ z. omega arith))

  -- each of the four is stored in once, and two of them that stand in one entry together
  item_four : count (λ n. stored v n b) N + count (λ n. beside v n b) N ≡ four v N b
  item_four =
      count_both N (live v) (λ n. is_precommit (current (v.entry n b))) (λ n. not (eqb (kept (v.entry n b)) invalid))
      ∙ ap₂ ◌+◌ (two_codes v N b precommit1 precommit2 (λ z. omega arith)) keeps_two

  created_four : Created v N b → four v N b ≡ 4
  created_four k =
      omega (
        arith,
        only_counts N (has v b precommit1) k.one k.first,
        only_counts N (has v b precommit2) k.two k.second,
        only_counts N (has_kept v b inv_ck1) k.saved.one k.saved.first,
        only_counts N (has_kept v b inv_ck2) k.saved.two k.saved.second,
      )

  clean_four : Clean v N b → four v N b ≡ 0
  clean_four k =
      omega (
        arith,
        two_codes v N b precommit1 precommit2 (λ z. omega arith),
        count_zero N (λ n. live v n && is_precommit (current (v.entry n b))) none,
        keeps_two,
        count_zero N (kept_copy v b) k.nothing,
      )
    where
      none : (n : ℕ) → n < N → (live v n && is_precommit (current (v.entry n b))) ≡ false
      none n l =
          by_cases (live v n)
          (λ t. and_no (live v n) (not_precommit clean_code v b n refl refl t (k.others n l)))
          (λ t. rw t refl)

  clean_not_created : Clean v N b → is_created (counts_of v b N) ≡ false
  clean_not_created k = let z : count (has v b precommit1) N ≡ 0 = omega (arith, clean_four k) in rw z refl

-- ---- the whole list

module _ (g : Geometry) (v : View) (phase number : ℕ) (good : SoundTable g v phase number) (admitted : commit_admission g v ≡ (Ok tt)) where
  item_count :
      (b : ℕ) → b < g.items
      → count (λ n. stored v n b) g.nodes + count (λ n. beside v n b) g.nodes ≡ 4 * one (created_in g v b)
  item_count b h = item_four v g.nodes b forms ∙ go (good.items b h)
    where
      forms : (n : ℕ) → n < g.nodes → live v n ≡ true → state_form (v.entry n b).state ≡ true
      forms n l t = good.forms n b l h t

      go : Kind phase v g.nodes b → four v g.nodes b ≡ 4 * one (created_in g v b)
      go (clean k) = omega (arith, clean_four v g.nodes b forms k, ap one (clean_not_created v g.nodes b forms k))
      go (dirty k) = absurd (not_owned g v admitted b h k.node k.owned)
      go (created e k) = omega (arith, created_four v g.nodes b forms k, ap one (created_test v g.nodes b k))

  entries_together : sum (λ n. count (stored v n) g.items) g.nodes + live_side_by_side g v ≡ 4 * created_items g v
  entries_together =
      let M = g.items in
      let N = g.nodes in
      ap₂ ◌+◌ (count_swap (stored v) N M) (count_swap (beside v) N M)
      ∙ sym (sum_plus (λ b. count (λ n. stored v n b) N) (λ b. count (λ n. beside v n b) N) M)
      ∙ sum_ext M _ _ item_count
      ∙ sum_times 4 (λ b. one (created_in g v b)) M
      ∙ ap (λ x. 4 * x) (sum_count (created_in g v) M)

  stores_together : length (commit_stores g v) + live_side_by_side g v ≡ commit_bound g v
  stores_together = omega (arith, entries_together, commit_parts g v)

-- ---- the theorem

pub commit_count : CommitCount
commit_count = record { counted = counts }
  where
    counts :
        (t : List ℕ) (g : Geometry) (value : ℕ) (ss : List Store) → commit_of t ≡ carry g value ss → CommitCounted t g ss
    counts t g value ss accepted =
        let k = carried t accepted in
        let v = view g t in
        let good = (facts t accepted).table in
        let whole : length ss + live_side_by_side g v ≡ commit_bound g v =
        rw k.stores_are (stores_together g v _ _ good k.admitted) in
        let few : live_side_by_side g v ≤ 4 * created_items g v =
        omega (arith, entries_together g v _ _ good k.admitted) in
        let zero-value = acted_value commit_admission (λ g v. 0) commit_stores t accepted in
        let exact : length ss ≡ commit_length g v = omega arith in
        record {
          together = whole;
          within = few;
          answered = λ limit. rw accepted (ap₂ Done zero-value (ap (min limit) exact));
          told = rw accepted (ap (λ n. carry g n []) exact);
        }
