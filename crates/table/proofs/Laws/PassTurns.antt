-- Code that makes a pass over entries, one after the other, and reads each as it comes to it: whatever the limit, it finds the entry as it was at the
-- start, so its stores are those of the pass.
use Prim.Native.Nat.{ℕ, ◌+◌, ◌*◌, ◌/◌, ◌%◌, ◌≤◌, ◌<◌}
use mathlib.Core.Path.{◌≡◌, sym, ap, ◌∙◌}
use mathlib.Core.List.{List, map}
use native.Mathlib.Omega.{arith}
use native.Mathlib.Nat.{div-lt_iff_lt-mul, mul-le-mul_right}
use native.Mathlib.Decide.{dec_lt}
use lib.Arith.{digits_div, digits_mod}
use lib.ListN.{length}
use Rattle.table.specs.declared.geometry.Geometry.{Geometry}
use Rattle.table.specs.Geometry.{words_of}
use Rattle.table.specs.Stores.{Change, Store, entry_store, Stored, runs}
use Rattle.table.proofs.Laws.Stores.{runs_ext, runs_add, stored_then, stored_as, loop-starts, loop-turns}
use Rattle.table.specs.View.{View, view, pass}
use Rattle.table.proofs.Laws.Pass.{grid_within, grid_once}
use Rattle.table.proofs.Laws.PassLeaves.{pass_marks, pass_entry}

-- changes of an entry that look at its node's mark and at the entry alone
abbrev pub Local : (View → ℕ → ℕ → List Change) → Type 0
Local F = (v w : View) (n b : ℕ) → w.mark n ≡ v.mark n → w.entry n b ≡ v.entry n b → F w n b ≡ F v n b

module _ (F : View → ℕ → ℕ → List Change) (local : Local F) (g : Geometry) {left left₁ : ℕ} {t t₁ : List ℕ} (long : words_of g ≤ length t) where
  -- ---- place k of any pass

  module _ (nd it : ℕ → ℕ) (k : ℕ)
      (within : (d : ℕ) → d < k → (nd d < g.nodes) × (it d < g.items))
      (once : (d e : ℕ) → d < k → e < k → nd d ≡ nd e → it d ≡ it e → d ≡ e)
      (s : Stored g left (pass nd it (λ d. F (view g t) (nd d) (it d)) k) t t₁ left₁) where
    -- an entry that the pass has not come to
    pub turn_finds : (n b : ℕ) → ((d : ℕ) → d < k → nd d ≡ n → it d ≡ b → ⊥) → F (view g t₁) n b ≡ F (view g t) n b
    turn_finds n b new =
        local (view g t) (view g t₁) n b
        (ap (λ f. f n) (pass_marks g nd it k within once (λ d. F (view g t) (nd d) (it d)) long s))
        (pass_entry g nd it k within once (λ d. F (view g t) (nd d) (it d)) long s n b (λ d l p q. absurd (new d l p q)))

    pub pass_turn :
        ((d : ℕ) → d < k → nd d ≡ nd k → it d ≡ it k → ⊥) → {left₂ : ℕ} {t₂ : List ℕ}
        → Stored g left₁ (map (entry_store (nd k) (it k)) (F (view g t₁) (nd k) (it k))) t₁ t₂ left₂
        → Stored g left (pass nd it (λ d. F (view g t) (nd d) (it d)) (k + 1)) t t₂ left₂
    pass_turn new r = loop-turns _ k s (stored_as (ap (map (entry_store (nd k) (it k))) (sym (turn_finds (nd k) (it k) new))) r)

  -- ---- one node's items: node n, item k

  pub items_turn :
      (n k : ℕ) → n < g.nodes → k < g.items → Stored g left (pass (λ d. n) (λ d. d) (λ d. F (view g t) n d) k) t t₁ left₁ → {left₂ : ℕ}
      {t₂ : List ℕ} → Stored g left₁ (map (entry_store n k) (F (view g t₁) n k)) t₁ t₂ left₂
      → Stored g left (pass (λ d. n) (λ d. d) (λ d. F (view g t) n d) (k + 1)) t t₂ left₂
  items_turn n k hn hk s r =
      pass_turn (λ d. n) (λ d. d) k (λ d l. (hn, omega arith)) (λ d e _ _ _ q. q) s (λ d l _ q. omega arith) r

  -- ---- all nodes, each with all its items: "by node, then item"

  pub nodes_turn :
      (n : ℕ) → n < g.nodes
      → Stored g left (pass (λ k. k / g.items) (λ k. k % g.items) (λ k. F (view g t) (k / g.items) (k % g.items)) (n * g.items)) t t₁ left₁
      → {left₂ : ℕ} {t₂ : List ℕ} → Stored g left₁ (pass (λ d. n) (λ d. d) (λ d. F (view g t₁) n d) g.items) t₁ t₂ left₂
      → Stored g left (pass (λ k. k / g.items) (λ k. k % g.items) (λ k. F (view g t) (k / g.items) (k % g.items)) ((n + 1) * g.items)) t t₂ left₂
  nodes_turn n hn s {left₂} {t₂} r =
      let M = g.items in
      let flat : ℕ → List Store = λ k. map (entry_store (k / M) (k % M)) (F (view g t) (k / M) (k % M)) in
      let e : (n + 1) * M ≡ n * M + M = omega arith in
      stored_as (ap (runs flat) e ∙ runs_add flat (n * M) M)
      (stored_then s (stored_as (runs_ext M (λ i. flat (n * M + i)) (λ d. map (entry_store n d) (F (view g t₁) n d)) row) r))
    where
      low : (d : ℕ) → d < n * g.items → d / g.items < n
      low d l = elim (dec_lt 0 g.items) [
        | yes p ↦ (div-lt_iff_lt-mul p).1 l
        | no p ↦ absurd (let z : g.items ≡ 0 = omega arith in let l' : d < n * 0 = rw z at l in omega arith)
      ]

      below : (d : ℕ) → d < n * g.items → d < g.nodes * g.items
      below d l = let h : n ≤ g.nodes = omega arith in omega (arith, mul-le-mul_right g.items h)

      row : (i : ℕ) → i < g.items
          → map (entry_store ((n * g.items + i) / g.items) ((n * g.items + i) % g.items)) (F (view g t) ((n * g.items + i) / g.items) ((n * g.items + i) % g.items))
          ≡ map (entry_store n i) (F (view g t₁) n i)
      row i l = rw (digits_div n l, digits_mod n l)
          (ap (map (entry_store n i))
          (sym (turn_finds (λ k. k / g.items) (λ k. k % g.items) (n * g.items)
          (λ d k. grid_within g d (below d k))
          (λ d e _ _. grid_once g.items d e) s n i (λ d k p _. omega (arith, low d k)))))

-- before the first node
module _ (g : Geometry) (changes : ℕ → List Change) where
  pub nodes_start : (left : ℕ) (t : List ℕ) → Stored g left (pass (λ k. k / g.items) (λ k. k % g.items) changes (0 * g.items)) t t left
  nodes_start left t = let e : 0 * g.items ≡ 0 = omega arith in rw e (loop-starts g _ left t)
