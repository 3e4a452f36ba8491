-- The ways of Write's code: a law for each, over what the code has read.
use Prim.Native.Nat.{ℕ, ◌+◌, ◌≤◌, ◌<◌}
use mathlib.Core.Path.{◌≡◌, refl, ap, ◌∙◌}
use mathlib.Core.List.{List, [], ◌∷◌, ◌++◌, map}
use native.Mathlib.Omega.{arith}
use lib.ListN.{length}
use borrow.Author.Tests.{eq-eqb, ne_eqb}
use Rattle.table.specs.declared.geometry.Geometry.{Geometry}
use Rattle.table.specs.Geometry.{words_of}
use Rattle.table.specs.Words.{current_of, modified}
use Rattle.table.specs.Changes.{checkpoint_of}
use Rattle.table.specs.declared.stores.Stores.{Stores}
use Rattle.table.specs.Stores.{Stored, entry_store, state_to, value_to}
use Rattle.table.proofs.Laws.Stores.{stored_then, stored_three, loop-turns}
use Rattle.table.specs.Made.{MadeIn}
use Rattle.table.proofs.Laws.Made.{made_in_as, made_three, stored_in, stored_next}
use Rattle.table.specs.View.{Entry, View, view, pass}
use Rattle.table.proofs.Laws.PassLeaves.{pass_marks, pass_entry}
use Rattle.calls.specs.Transitions.{keep_copy}
use Rattle.calls.specs.Write.{other_change, other_changes, other_stores, kept_after, own_keep, own_changes, write_stores}

-- the turn of a node
module _ (v : View) (writer b k : ℕ) {mark : ℕ} (h : mark ≡ v.mark k) where
  pub node_writes : k ≡ writer → other_changes v writer b k ≡ []
  unfolding other_changes
  node_writes e = rw (eq-eqb k writer e)

  module _ (d : k ≡ writer → ⊥) where
    pub node_dead : mark ≡ 0 → other_changes v writer b k ≡ []
    unfolding other_changes
    node_dead e = rw (← h, ne_eqb k writer d, eq-eqb mark 0 e)

    pub node_turned : (mark ≡ 0 → ⊥) → other_changes v writer b k ≡ other_change (v.entry k b)
    unfolding other_changes
    node_turned e = rw (← h, ne_eqb k writer d, ne_eqb mark 0 e)

-- the turns of the nodes before k leave the marks and the entry of k, whatever the limit
module _ (g : Geometry) (writer b k : ℕ) (hk : k ≤ g.nodes) (hb : b < g.items) {left left₁ : ℕ} {t t₁ : List ℕ} (long : words_of g ≤ length t)
    (s : Stored g left (pass (λ k. k) (λ k. b) (other_changes (view g t) writer b) k) t t₁ left₁) where
  marks_found : (view g t₁).mark ≡ (view g t).mark
  marks_found = pass_marks g (λ k. k) (λ k. b) k (λ d l. (omega arith, hb)) (λ d d' _ _ e _. e) (other_changes (view g t) writer b) long s

  entry_found : (n : ℕ) → (n < k → other_changes (view g t) writer b n ≡ []) → (view g t₁).entry n b ≡ (view g t).entry n b
  entry_found n nothing =
      pass_entry g (λ k. k) (λ k. b) k (λ d l. (omega arith, hb)) (λ d d' _ _ e _. e) (other_changes (view g t) writer b) long s n b
      (λ d l e _. ap (other_changes (view g t) writer b) e ∙ nothing (rw e at l))

  changes_found : other_changes (view g t₁) writer b k ≡ other_changes (view g t) writer b k
  unfolding other_changes
  changes_found = rw (ap (λ m. m k) marks_found, entry_found k (λ l. absurd (omega arith)))

  pub other_turn :
      {left₂ : ℕ} {t₂ : List ℕ} → Stored g left₁ (map (entry_store k b) (other_changes (view g t₁) writer b k)) t₁ t₂ left₂
      → Stored g left (pass (λ k. k) (λ k. b) (other_changes (view g t) writer b) (k + 1)) t t₂ left₂
  other_turn r = loop-turns _ k s (rw changes_found at r)

-- the writer's own keep
module _ (w value : ℕ) {number : ℕ} (h : number ≡ checkpoint_of (current_of w)) where
  pub own_keeps_none : number ≡ 0 → own_keep w value ≡ []
  unfolding own_keep
  own_keeps_none k = rw (← h, eq-eqb number 0 k)

  pub own_keeps : (number ≡ 0 → ⊥) → own_keep w value ≡ keep_copy number value
  unfolding own_keep
  own_keeps k = rw (← h, ne_eqb number 0 k)

-- all that the writer stores, in its order: the premises are in the order of the code's stores
pub own_all :
    (n b : ℕ) (e : Entry) {x w value k : ℕ} {s s₁ s₂ s₃ : Stores} → w ≡ e.state → value ≡ e.value → k ≡ kept_after w
    → MadeIn s n b (own_keep w value) s₁
    → MadeIn s₁ n b (value_to x ∷ []) s₂
    → MadeIn s₂ n b (state_to modified k ∷ []) s₃ → MadeIn s n b (own_changes e x) s₃
unfolding own_changes
own_all n b e {x} {w} {value} {k} p q h first second third =
    let same : own_changes e x ≡ (own_keep w value ++ (value_to x ∷ [])) ++ (state_to modified k ∷ []) = rw (h, p, q) in
    made_in_as n b same
    (made_three first second third
    (stored_three n b (own_keep w value) (value_to x ∷ []) (state_to modified k ∷ []) first.stored (stored_next first second)
    (stored_in (second.same_geometry ∙ first.same_geometry) third)))

-- others first, then the writer's own entry as it was at the start
pub write_then :
    (g : Geometry) (n b x : ℕ) {left left₁ left₂ : ℕ} {t t₁ t₂ : List ℕ} → b < g.items → words_of g ≤ length t
    → Stored g left (other_stores g (view g t) n b) t t₁ left₁ → Stored g left₁ (map (entry_store n b) (own_changes ((view g t₁).entry n b) x)) t₁ t₂ left₂
    → Stored g left (write_stores g (view g t) n b x) t t₂ left₂
unfolding other_stores write_stores other_changes
write_then g n b x {t = t} hb long s r =
    stored_then s (rw (entry_found g n b g.nodes (omega arith) hb long s n (λ _. rw (eq-eqb n n refl))) at r)
