-- The rehearsal's hit is the demand's: it leaves every word that is none of the node's.
use Rattle.std.specs.Prelude.{None, Option, Some}
use Prim.Native.Nat.{ℕ, zero, suc, ◌+◌, ◌-◌, ◌≤◌, ◌<◌}
use mathlib.Core.Path.{◌≡◌, refl, ◌∙◌}
use mathlib.Core.Logic.{◌≢◌}
use mathlib.Core.Bool.{true, false}
use mathlib.Core.List.{List}
use native.Mathlib.Omega.{arith}
use lib.Dec.{eqb, ltb}
use lib.ListN.{length, get_or, length-set}
use lib.Seq.{get_or-set_other}
use borrow.Author.Tests.{eqb-false, eq-eqb, le-leb, lt-ltb}
use Rattle.counting.proofs.Laws.Tests.{by_cases, no_both, and_both, or_left, or_right}
use Rattle.table.specs.declared.geometry.Geometry.{Geometry}
use Rattle.table.specs.Geometry.{mark_at, entry_at}
use Rattle.table.specs.View.{view}
use Rattle.entries.proofs.Laws.CheckFacts.{Shape, facts_sizes}
use Rattle.restore.specs.Run.{geometry_in}
use Rattle.restore.proofs.Laws.RunPoints.{run_history}
use Rattle.restore.specs.Strike.{live_or_none, of_node, Hit}
use Rattle.restore.specs.History.{begun}
use Rattle.restore.proofs.Laws.HistoryTheorem.{history_good}
use Rattle.restore.proofs.Laws.CutShape.{cut_shape}
use Rattle.restore.specs.Rehearsal.{node_word_at, node_words, put_to, hit_node, hit_sized, hit_by, Script, whole_calls, before, cut, struck, Demanded}

put_length : (g : Geometry) (n : ℕ) (words : List ℕ) (k : ℕ) (t : List ℕ) → length (put_to g n words k t) ≡ length t
unfolding put_to
put_length g n words zero t = refl
put_length g n words (suc k) t = length-set (put_to g n words k t) (node_word_at g n k) (get_or words k 0) ∙ put_length g n words k t

-- a word that is none of the node's
module _ (g : Geometry) (n i : ℕ) (out : of_node g n i ≡ false) where
  not_mark : i ≢ mark_at n
  not_mark e = no_both (or_left _ (eq-eqb i (mark_at n) e)) out

  not_entry : (k : ℕ) → k < node_words g - 1 → i ≢ entry_at g n 0 + k
  not_entry k h e =
      no_both (or_right (eqb i (mark_at n)) (and_both (le-leb (entry_at g n 0) i (omega arith)) (lt-ltb i (entry_at g (n + 1) 0) (omega arith)))) out

  not_there : (k : ℕ) → k < node_words g → i ≢ node_word_at g n k
  unfolding node_word_at
  not_there k h = by_cases (eqb k 0) (λ z. rw z not_mark) (λ z. rw z (let d : k ≢ 0 = eqb-false k 0 z in not_entry (k - 1) (omega arith)))

  put_rest : (words : List ℕ) (k : ℕ) (t : List ℕ) → k ≤ node_words g → get_or (put_to g n words k t) i 0 ≡ get_or t i 0
  unfolding put_to
  put_rest words zero t h = refl
  put_rest words (suc k) t h =
      get_or-set_other (put_to g n words k t) (node_word_at g n k) i (get_or words k 0) 0 (not_there k (omega arith)) ∙ put_rest words k t (omega arith)

hit_node_length : (g : Geometry) (n : ℕ) (words t : List ℕ) → length (hit_node g n words t) ≡ length t
unfolding hit_node
hit_node_length g n words t = by_cases (ltb n g.nodes) (λ e. rw e (put_length g n words _ t)) (λ e. rw e refl)

hit_node_rest : (g : Geometry) (n : ℕ) (words t : List ℕ) (i : ℕ) → of_node g n i ≡ false → get_or (hit_node g n words t) i 0 ≡ get_or t i 0
unfolding hit_node
hit_node_rest g n words t i out = by_cases (ltb n g.nodes) (λ e. rw e (put_rest g n i out words _ t (omega arith))) (λ e. rw e refl)

hit_is : (g : Geometry) (lost : Option ℕ) (words t : List ℕ) → Shape t g → live_or_none (view g t) lost ≡ true → Hit g lost t (hit_by lost words t)
unfolding hit_by hit_sized
hit_is g None words t s one = record { one = one; size = refl; rest = λ i out. refl }
hit_is g (Some n) words t s one =
    rw (facts_sizes t g s) (record { one = one; size = hit_node_length g n words t; rest = λ i out. hit_node_rest g n words t i out })

module _ (t₀ : List ℕ) (p : Script) (d : Demanded t₀ p) where
  cut_is : Shape (cut t₀ p) (geometry_in (before t₀ p))
  cut_is =
      cut_shape (before t₀ p) _ _ (history_good (run_history (whole_calls t₀ p) (begun t₀ d.formatted))) p.call p.scratch p.limit d.cuttable

  pub hit_struck : Hit (geometry_in (before t₀ p)) p.lost (cut t₀ p) (struck t₀ p)
  hit_struck = hit_is (geometry_in (before t₀ p)) p.lost p.words (cut t₀ p) cut_is d.one
