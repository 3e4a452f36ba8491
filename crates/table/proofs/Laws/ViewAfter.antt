-- The view after a list of stores, cut anywhere, is the view with those stores made on it. Addresses are met here and never above.
use Prim.Native.Nat.{ℕ, zero, suc, ◌+◌, ◌≤◌, ◌<◌}
use mathlib.Core.Path.{◌≡◌, refl, ap, ◌∙◌, fun_ext}
use mathlib.Core.Logic.{◌≢◌}
use mathlib.Core.Bool.{Bool, true, false, cond}
use mathlib.Core.List.{List}
use native.Mathlib.Nat.{add-zero}
use native.Mathlib.Omega.{arith}
use lib.Dec.{ltb}
use lib.ListN.{length, get_or, set, take, length-set}
use lib.Seq.{get_or-set_same, get_or-set_other}
use borrow.Author.Tests.{ltb-true, lt-ltb}
use Rattle.table.specs.declared.geometry.Geometry.{Geometry}
use Rattle.counting.proofs.Laws.Tests.{both}
use Rattle.table.specs.Geometry.{mark_at, entry_at, words_of}
use Rattle.table.proofs.Laws.Geometry.{entry_within, entries_apart}
use Rattle.table.specs.Stores.{Change, state_to, value_to, kept_to, part_of, change_word, Store, size_store, mark_store, entry_store, address_of, word_of, after}
use Rattle.table.proofs.Laws.Stores.{part_low, All, none, more}
use Rattle.table.specs.View.{view, entry_in, blank, there, changed, update, updates}
use Rattle.table.proofs.Laws.View.{entry_same}
use Rattle.table.proofs.Laws.Puts.{put₁_case, put₂_case}

-- a store within the table
abbrev pub Within : Geometry → Store → Type 0
Within g (size_store h) = Unit {0}
Within g (mark_store n w) = n < g.nodes
Within g (entry_store n b c) = (n < g.nodes) × (b < g.items)

-- a store in the entry at a word, and one elsewhere
in_here : (t : List ℕ) (at : ℕ) (c : Change) → at + 2 < length t → entry_in (set t (at + part_of c) (change_word c)) at ≡ changed c (entry_in t at)
in_here t at (state_to c k) h = rw (add-zero at) (λ i. record {
  state = get_or-set_same t at (change_word (state_to c k)) 0 (omega arith) i;
  value = get_or-set_other t at (at + 1) (change_word (state_to c k)) 0 (λ e. omega arith) i;
  kept_value = get_or-set_other t at (at + 2) (change_word (state_to c k)) 0 (λ e. omega arith) i;
})
in_here t at (value_to x) h = λ i. record {
  state = get_or-set_other t (at + 1) at x 0 (λ e. omega arith) i;
  value = get_or-set_same t (at + 1) x 0 (omega arith) i;
  kept_value = get_or-set_other t (at + 1) (at + 2) x 0 (λ e. omega arith) i;
}
in_here t at (kept_to x) h = λ i. record {
  state = get_or-set_other t (at + 2) at x 0 (λ e. omega arith) i;
  value = get_or-set_other t (at + 2) (at + 1) x 0 (λ e. omega arith) i;
  kept_value = get_or-set_same t (at + 2) x 0 (omega arith) i;
}

in_off : (t : List ℕ) (at i w : ℕ) → ((k : ℕ) → k < 3 → at + k ≢ i) → entry_in (set t i w) at ≡ entry_in t at
in_off t at i w h = entry_same t (set t i w) at (λ k l. get_or-set_other t i (at + k) w 0 (h k l))

module _ (g : Geometry) (t : List ℕ) where
  -- an entry, and a mark, that a store does not touch
  entry_off :
      (i w n b : ℕ) → (n < g.nodes → b < g.items → (k : ℕ) → k < 3 → entry_at g n b + k ≢ i)
      → (view g (set t i w)).entry n b ≡ (view g t).entry n b
  unfolding view
  entry_off i w n b h = go (there g n b) refl
    where
      go : (p : Bool) → there g n b ≡ p → cond p (entry_in (set t i w) (entry_at g n b)) blank ≡ cond p (entry_in t (entry_at g n b)) blank
      go true e =
          let d = both (ltb n g.nodes) e in
          in_off t (entry_at g n b) i w (h (ltb-true n g.nodes d.0) (ltb-true b g.items d.1))
      go false e = refl

  mark_off : (i w n : ℕ) → (n < g.nodes → mark_at n ≢ i) → (view g (set t i w)).mark n ≡ (view g t).mark n
  unfolding view
  mark_off i w n h = go (ltb n g.nodes) refl
    where
      go : (p : Bool) → ltb n g.nodes ≡ p → cond p (get_or (set t i w) (mark_at n) 0) 0 ≡ cond p (get_or t (mark_at n) 0) 0
      go true e = get_or-set_other t i (mark_at n) w 0 (h (ltb-true n g.nodes e))
      go false e = refl

  module _ (long : words_of g ≤ length t) where
    entry_here : (n b : ℕ) (c : Change) → n < g.nodes → b < g.items
        → (view g (set t (entry_at g n b + part_of c) (change_word c))).entry n b ≡ changed c ((view g t).entry n b)
    unfolding view
    entry_here n b c hn hb =
        rw (lt-ltb n g.nodes hn, lt-ltb b g.items hb) (in_here t (entry_at g n b) c (omega (arith, entry_within g hn hb)))

    mark_here : (n w : ℕ) → n < g.nodes → (view g (set t (mark_at n) w)).mark n ≡ w
    unfolding view
    mark_here n w hn = rw (lt-ltb n g.nodes hn) (get_or-set_same t (mark_at n) w 0 (omega arith))

    -- one store
    pub view_store : (s : Store) → Within g s → view g (set t (address_of g s) (word_of s)) ≡ update s (view g t)
    view_store (size_store h) _ = λ i. record {
      mark = fun_ext (λ n. mark_off 0 (word_of (size_store h)) n (λ _ e. absurd (omega arith))) i;
      entry = fun_ext (λ n. fun_ext (λ b. entry_off 0 (word_of (size_store h)) n b (λ _ _ k _ e. absurd (omega arith)))) i;
    }
    view_store (mark_store n w) hn = λ i. record {
      mark = fun_ext (λ n'. put₁_case (λ y. (view g (set t (mark_at n) w)).mark n' ≡ y) (view g t).mark n w n'
          (λ e. rw e (mark_here n w hn)) (λ d. mark_off (mark_at n) w n' (λ _ e. d (omega arith)))) i;
      entry = fun_ext (λ n'. fun_ext (λ b'. entry_off (mark_at n) w n' b' (λ _ _ k _ e. absurd (omega arith)))) i;
    }
    view_store (entry_store n b c) h = λ i. record {
      mark = fun_ext (λ n'. mark_off (entry_at g n b + part_of c) (change_word c) n' (λ l e. absurd (omega arith))) i;
      entry = fun_ext (λ n'. fun_ext (λ b'. put₂_case
          (λ y. (view g (set t (entry_at g n b + part_of c) (change_word c))).entry n' b' ≡ y) (view g t).entry n b (changed c ((view g t).entry n b)) n' b'
          (λ p q. rw (p, q) (entry_here n b c h.0 h.1))
          (λ d. entry_off (entry_at g n b + part_of c) (change_word c) n' b' (λ _ hb k hk. entries_apart g n' b' n b k (part_of c) hk (part_low c) hb h.1 d)))) i;
    }

-- THE LAW: the view after any number of stores of a list
pub view_after :
    (g : Geometry) (limit : ℕ) {ss : List Store} (t : List ℕ) → words_of g ≤ length t → All (Within g) ss
    → view g (after g limit ss t) ≡ updates (take limit ss) (view g t)
unfolding after
view_after g zero t h none = refl
view_after g zero t h (more w a) = refl
view_after g (suc limit) t h none = refl
view_after g (suc limit) t h (more {s} {ss} w a) =
    view_after g limit (set t (address_of g s) (word_of s)) (rw length-set h) a ∙ ap (updates (take limit ss)) (view_store g t h s w)
