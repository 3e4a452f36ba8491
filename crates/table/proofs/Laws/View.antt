-- The laws of `specs/View.antt`.
use Prim.Native.Nat.{ℕ, ◌+◌, ◌<◌, ◌≤◌}
use mathlib.Core.Path.{◌≡◌, refl, sym, ap}
use mathlib.Core.Bool.{true, false}
use mathlib.Core.List.{List}
use native.Mathlib.Nat.{add-zero}
use lib.Dec.{lit<}
use lib.ListN.{get_or}
use borrow.Author.Tests.{lt-ltb, le-ltb}
use Rattle.counting.proofs.Laws.Tests.{by_cases}
use Rattle.table.specs.declared.geometry.Geometry.{Geometry}
use Rattle.table.specs.Geometry.{mark_at, entry_at}
use Rattle.table.specs.View.{Entry, blank, entry_in, there, view}
use Rattle.table.specs.code.View.{entry_word}

-- ---- the view of a table

-- an entry all of whose words are the same
pub entry_same : (t t' : List ℕ) (at : ℕ) → ((k : ℕ) → k < 3 → get_or t' (at + k) 0 ≡ get_or t (at + k) 0) → entry_in t' at ≡ entry_in t at
entry_same t t' at h = λ i. record { state = (rw (add-zero at) at (h 0 (lit< tt))) i; value = h 1 (lit< tt) i; kept_value = h 2 (lit< tt) i }

-- ---- a word that code reads, and the zero that it answers where there is none

module _ (g : Geometry) (t : List ℕ) (n : ℕ) where
  pub mark_read : {w : ℕ} → n < g.nodes → w ≡ get_or t (mark_at n) 0 → w ≡ (view g t).mark n
  unfolding view
  mark_read h e = rw (lt-ltb n g.nodes h) e

  pub mark_none : g.nodes ≤ n → 0 ≡ (view g t).mark n
  unfolding view
  mark_none h = rw (le-ltb n g.nodes h)

  -- word k of an entry: "state word, current value, kept value"
  pub entry_word_lem : (b k : ℕ) {at w : ℕ} → there g n b ≡ true → at ≡ entry_at g n b + k → w ≡ get_or t at 0 → w ≡ entry_word g t n b k
  unfolding entry_word
  entry_word_lem b k h a e = rw (h, ← a) e

  pub word_none : (b k : ℕ) → there g n b ≡ false → 0 ≡ entry_word g t n b k
  unfolding entry_word
  word_none b k h = rw h

  pub entry_read : (b : ℕ) → n < g.nodes → b < g.items → (view g t).entry n b ≡ entry_in t (entry_at g n b)
  unfolding view
  entry_read b h k = rw (lt-ltb n g.nodes h, lt-ltb b g.items k)

  -- a field that is word k of each entry, and 0 of the blank one
  word_field :
      (b k : ℕ) (f : Entry → ℕ) → ((at : ℕ) → f (entry_in t at) ≡ get_or t (at + k) 0) → f blank ≡ 0 → entry_word g t n b k ≡ f ((view g t).entry n b)
  unfolding view entry_word
  word_field b k f h z = by_cases (there g n b) (λ e. rw e (sym (h (entry_at g n b)))) (λ e. rw e (sym z))

  module _ (b : ℕ) where
    pub state_read : entry_word g t n b 0 ≡ ((view g t).entry n b).state
    state_read = word_field b 0 (λ e. e.state) (λ at. ap (λ i. get_or t i 0) (sym (add-zero at))) refl

    pub value_read : entry_word g t n b 1 ≡ ((view g t).entry n b).value
    value_read = word_field b 1 (λ e. e.value) (λ at. refl) refl

    pub kept_value_read : entry_word g t n b 2 ≡ ((view g t).entry n b).kept_value
    kept_value_read = word_field b 2 (λ e. e.kept_value) (λ at. refl) refl
