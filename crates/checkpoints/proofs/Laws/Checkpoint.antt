-- The laws of `specs/Checkpoint.antt`.
use Prim.Native.Nat.{ℕ, zero, suc, ◌+◌, ◌*◌, ◌/◌, ◌%◌, ◌<◌, ◌≤◌}
use mathlib.Core.Path.{◌≡◌, refl, sym, ap, ap₂, ◌∙◌}
use mathlib.Core.Bool.{not}
use mathlib.Core.List.{List, [], ◌++◌, map}
use native.Mathlib.Omega.{arith}
use lib.ListN.{length, get_or}
use borrow.Author.Tests.{eq-eqb, ne_eqb, lt-ltb}
use Rattle.counting.proofs.Laws.Tests.{and_both}
use Rattle.counting.specs.Counting.{first}
use Rattle.counting.proofs.Laws.First.{first_turns, first_found}
use Rattle.table.specs.declared.geometry.Geometry.{Geometry}
use Rattle.table.specs.Geometry.{entry_words, words_of, entry_at}
use Rattle.table.proofs.Laws.Geometry.{entry_within}
use Rattle.table.specs.declared.stores.Stores.{Stores}
use Rattle.table.specs.Stores.{Change, Store, entry_store, Stored, runs}
use Rattle.table.specs.code.Stores.{StoredIn}
use Rattle.table.specs.Made.{Made}
use Rattle.table.proofs.Laws.Stores.{runs_ext, stored_as, stored_none}
use Rattle.table.specs.View.{Entry, View, view, live, pass}
use Rattle.table.proofs.Laws.View.{mark_none, entry_word_lem, state_read}
use Rattle.table.proofs.Laws.PassTurns.{Local, items_turn, nodes_turn, nodes_start}
use Rattle.checkpoints.specs.Checkpoint.{common_mark, live_changes, entries_before, entries_to}
use Rattle.checkpoints.specs.code.Checkpoint.{Lies}

-- ---- the ways of the code

pub changes_local : (change : Entry → List Change) → Local (live_changes change)
unfolding live_changes
changes_local change v w n b m e = rw (m, e) refl

module _ (change : Entry → List Change) (v : View) (n b : ℕ) {mark : ℕ} (h : mark ≡ v.mark n) where
  pub changes_dead : mark ≡ 0 → live_changes change v n b ≡ []
  unfolding live_changes
  changes_dead d = rw (← h, eq-eqb mark 0 d) refl

  pub changes_live : (mark ≡ 0 → ⊥) → live_changes change v n b ≡ change (v.entry n b)
  unfolding live_changes
  changes_live d = rw (← h, ne_eqb mark 0 d) refl

-- the entries of a node, which begin at `start`
pub entry_lies :
    (g : Geometry) (t : List ℕ) (n : ℕ) → n < g.nodes → words_of g ≤ length t → {start : ℕ} → start ≡ entry_at g n 0 → (b : ℕ) → b < g.items
    → Lies g t n b (start + entry_words * b)
entry_lies g t n l long e b h = record { node = l; item = h; place = omega arith; long = long }

module _ {g : Geometry} {t : List ℕ} {n b at : ℕ} (h : Lies g t n b at) where
  pub lies_within : at + 2 < length t
  lies_within = omega (arith, entry_within g h.node h.item, h.place, h.long)

  pub lies_state : get_or t at 0 ≡ ((view g t).entry n b).state
  lies_state =
      entry_word_lem g t n b 0 (and_both (lt-ltb n g.nodes h.node) (lt-ltb b g.items h.item)) (omega (arith, h.place)) refl ∙ state_read g t n b

-- after stores: a table that had all its words has them, and its entries lie where they lay
module _ {s s' : Stores} {ss : List Store} (m : Made s ss s') where
  pub made_long : words_of s.g ≤ length s.table.now → words_of s'.g ≤ length s'.table.now
  made_long long = rw m.same_geometry (omega (arith, long, m.stored.size))

  pub made_lies :
      {n start : ℕ} → n < s.g.nodes → words_of s.g ≤ length s.table.now → start ≡ entry_at s.g n 0
      → (b : ℕ) → b < s.g.items → Lies s'.g s'.table.now n b (start + entry_words * b)
  made_lies l long e b h =
      rw m.same_geometry (entry_lies s.g s'.table.now _ l (omega (arith, long, m.stored.size)) e b h)

-- the pass over a live node's entries, item by item, and a dead node's
module _ (change : Entry → List Change) (g : Geometry) {left left₁ : ℕ} {t t₁ : List ℕ} (n : ℕ) where
  pub live_turn :
      (b : ℕ) → words_of g ≤ length t → n < g.nodes → b < g.items
      → Stored g left (pass (λ d. n) (λ d. d) (λ d. change ((view g t).entry n d)) b) t t₁ left₁ → {left₂ : ℕ} {t₂ : List ℕ}
      → StoredIn g left₁ n b (change ((view g t₁).entry n b)) t₁ t₂ left₂
      → Stored g left (pass (λ d. n) (λ d. d) (λ d. change ((view g t).entry n d)) (b + 1)) t t₂ left₂
  live_turn b long l k s r = items_turn (λ v n b. change (v.entry n b)) (λ v w n b m e. ap change e) g long n b l k s r

  pub live_node :
      {mark : ℕ} → mark ≡ (view g t).mark n → (mark ≡ 0 → ⊥)
      → Stored g left (pass (λ d. n) (λ d. d) (λ d. change ((view g t).entry n d)) g.items) t t₁ left₁
      → Stored g left (pass (λ d. n) (λ d. d) (λ d. live_changes change (view g t) n d) g.items) t t₁ left₁
  live_node h d s = stored_as (runs_ext g.items _ _ (λ b l. ap (map (entry_store n b)) (changes_live change (view g t) n b h d))) s

pub dead_node :
    (change : Entry → List Change) (g : Geometry) {left : ℕ} {t : List ℕ} (n : ℕ) {mark : ℕ} → mark ≡ (view g t).mark n → mark ≡ 0
    → Stored g left (pass (λ d. n) (λ d. d) (λ d. live_changes change (view g t) n d) g.items) t t left
unfolding runs
dead_node change g {left} {t} n h d = stored_as (none g.items) (stored_none g left t)
  where
    none : (m : ℕ) → pass (λ d. n) (λ d. d) (λ d. live_changes change (view g t) n d) m ≡ []
    none zero = refl
    none (suc m) = ap₂ ◌++◌ (none m) (ap (map (entry_store n m)) (changes_dead change (view g t) n m h d))

-- the search for the lowest live mark
module _ (g : Geometry) (t : List ℕ) (k : ℕ) (e : first (live (view g t)) k ≡ k) where
  pub common_here : k < g.nodes → {mark : ℕ} → mark ≡ (view g t).mark k → (mark ≡ 0 → ⊥) → mark ≡ common_mark g (view g t)
  unfolding common_mark
  common_here l h d = h ∙ ap (view g t).mark (sym (first_found (live (view g t)) k g.nodes e (ap not (ne_eqb _ 0 (λ z. d (h ∙ z)))) l))

  pub common_none : g.nodes ≤ k → k ≤ g.nodes → 0 ≡ common_mark g (view g t)
  unfolding common_mark
  common_none l m =
      let q : k ≡ g.nodes = omega arith in
      let all : first (live (view g t)) g.nodes ≡ g.nodes = rw q at e in
      mark_none g t k l ∙ ap (view g t).mark (q ∙ sym all)

-- a dead node is passed over
pub common_passes :
    (g : Geometry) (t : List ℕ) (n : ℕ) {mark : ℕ} → first (live (view g t)) n ≡ n → mark ≡ (view g t).mark n → mark ≡ 0
    → first (live (view g t)) (n + 1) ≡ n + 1
common_passes g t n e h d = first_turns (live (view g t)) n e (ap not (eq-eqb ((view g t).mark n) 0 (sym h ∙ d)))

-- the pass over the entries, node by node
module _ (g : Geometry) (change : Entry → List Change) {left left₁ : ℕ} {t t₁ : List ℕ} where
  pub entries_turn :
      (n : ℕ) → words_of g ≤ length t → n < g.nodes → Stored g left (entries_before g (view g t) change n) t t₁ left₁ → {left₂ : ℕ} {t₂ : List ℕ}
      → Stored g left₁ (pass (λ d. n) (λ d. d) (λ d. live_changes change (view g t₁) n d) g.items) t₁ t₂ left₂
      → Stored g left (entries_before g (view g t) change (n + 1)) t t₂ left₂
  unfolding entries_before
  entries_turn n long l s r = nodes_turn (live_changes change) (changes_local change) g long n l s r

  pub entries_end :
      (n : ℕ) → n ≤ g.nodes → g.nodes ≤ n → Stored g left (entries_before g (view g t) change n) t t₁ left₁
      → Stored g left (entries_to g (view g t) change) t t₁ left₁
  entries_end n h k s = let e : n ≡ g.nodes = omega arith in rw e at s

pub entries_start : (g : Geometry) (v : View) (change : Entry → List Change) (left : ℕ) (t : List ℕ) → Stored g left (entries_before g v change 0) t t left
unfolding entries_before
entries_start g v change left t = nodes_start g (λ k. live_changes change v (k / g.items) (k % g.items)) left t
