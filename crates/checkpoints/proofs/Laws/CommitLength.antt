-- Laws of `specs/code/CommitCode.antt`: a commit's stores, node by node.
use Rattle.std.specs.Prelude.{Err, Ok}
use Prim.Native.Nat.{ℕ, ◌+◌, ◌*◌, ◌≤◌}
use mathlib.Core.Path.{◌≡◌, refl, sym, ap, ◌∙◌}
use mathlib.Core.Bool.{Bool, true}
use mathlib.Core.List.{List, []}
use mir.Val.{bool_byte}
use native.Mathlib.Omega.{arith}
use lib.ListN.{length, get_or}
use borrow.Author.Tests.{eq-eqb, ne_eqb}
use Rattle.counting.specs.Counting.{one, sum, count}
use Rattle.counting.proofs.Laws.Tests.{by_cases}
use Rattle.counting.proofs.Laws.Counting.{sum_ext, sum_plus, sum_times, sum_count, count_next, count_ext, count_zero, bit_counted}
use Rattle.table.specs.declared.geometry.Geometry.{Geometry}
use Rattle.table.specs.declared.answers.Refusal.{Refusal}
use Rattle.table.specs.View.{View, view, live}
use Rattle.table.specs.Answers.{refuse, carry}
use Rattle.homes.specs.code.Ready.{ready_of}
use Rattle.homes.proofs.Laws.Ready.{plan_refused, plan_ready}
use Rattle.checkpoints.specs.Checkpoint.{to_commit}
use Rattle.checkpoints.specs.Commit.{commit_admission, commit_stores, length_told, commit_length_of}
use Rattle.checkpoints.specs.code.Checkpoint.{Lies}
use Rattle.checkpoints.specs.code.CommitCode.{node_length}
use Rattle.checkpoints.proofs.Laws.Checkpoint.{lies_state}
use Rattle.checkpoints.proofs.Laws.CommitCount.{stored, commit_parts}

-- ---- a live node's entries

-- whether a commit stores in entry b
abbrev pub commits_at : Geometry → List ℕ → ℕ → ℕ → Bool
commits_at g t n b = to_commit ((view g t).entry n b).state

module _ (g : Geometry) (t : List ℕ) (n : ℕ) where
  pub row_turn :
      {b at found : ℕ} {q : Bool} → Lies g t n b at → found ≡ count (commits_at g t n) b → q ≡ to_commit (get_or t at 0)
      → found + bool_byte q ≡ count (commits_at g t n) (b + 1)
  row_turn {b} {q = q} lies h k =
      let same : one q ≡ one (commits_at g t n b) = ap one (k ∙ ap to_commit (lies_state lies)) in
      omega (arith, count_next (commits_at g t n) b, (bit_counted q).is)

  pub row_end : {r b : ℕ} → r ≡ count (commits_at g t n) b → b ≤ g.items → g.items ≤ b → r ≡ count (commits_at g t n) g.items
  row_end {r} {b} h k m = let same : b ≡ g.items = omega arith in h ∙ ap (count (commits_at g t n)) same

-- ---- a node

module _ (g : Geometry) (v : View) where
  module _ (n : ℕ) {mark : ℕ} (h : mark ≡ v.mark n) where
    pub length_dead : mark ≡ 0 → 0 ≡ node_length g v n
    unfolding node_length
    length_dead d = rw (← h, eq-eqb mark 0 d) refl

    pub length_live :
        (mark ≡ 0 → ⊥) → {r : ℕ} → r ≡ count (λ b. to_commit (v.entry n b).state) g.items → 2 + r ≡ node_length g v n
    unfolding node_length
    length_live d e = rw (← h, ne_eqb mark 0 d, e) refl

  -- ---- all nodes

  node_parts : (n : ℕ) → node_length g v n ≡ 2 * one (live v n) + count (stored v n) g.items
  unfolding node_length
  node_parts n =
      by_cases (live v n) alive (λ t. rw t (omega (arith, count_zero g.items (stored v n) (λ b _. rw t refl))))
    where
      alive : live v n ≡ true → node_length g v n ≡ 2 * one (live v n) + count (stored v n) g.items
      alive t =
          let same = count_ext g.items (stored v n) (λ b. to_commit (v.entry n b).state) (λ b _. rw t refl) in
          rw t (omega arith)

  pub length_all : {a n : ℕ} → a ≡ sum (node_length g v) n → n ≤ g.nodes → g.nodes ≤ n → a ≡ length (commit_stores g v)
  length_all {a} {n} h l m =
      let e : n ≡ g.nodes = omega arith in
      h ∙ ap (sum (node_length g v)) e ∙ sum_ext g.nodes _ _ (λ n _. node_parts n)
      ∙ sum_plus (λ n. 2 * one (live v n)) (λ n. count (stored v n) g.items) g.nodes
      ∙ ap (λ x. x + sum (λ n. count (stored v n) g.items) g.nodes)
      (sum_times 2 (λ n. one (live v n)) g.nodes ∙ ap (λ x. 2 * x) (sum_count (live v) g.nodes))
      ∙ sym (commit_parts g v)

-- ---- the answer

module _ (t : List ℕ) where
  pub length_refused : {x : Refusal} → Err x ≡ ready_of commit_admission t → commit_length_of t ≡ refuse x
  length_refused e = ap length_told (plan_refused commit_admission t _ e)

  pub length_is :
      {g : Geometry} → Ok g ≡ ready_of commit_admission t → {n : ℕ} → n ≡ length (commit_stores g (view g t))
      → commit_length_of t ≡ carry g n []
  length_is {g} e k = ap length_told (plan_ready commit_admission t _ e) ∙ ap (λ n. carry g n []) (sym k)
