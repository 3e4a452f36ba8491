-- What a pass that is cut anywhere leaves as it was: every mark, and every entry that it has not come to.
use Prim.Native.Nat.{ℕ, ◌≤◌, ◌<◌}
use mathlib.Core.Path.{◌≡◌, refl, sym, subst}
use mathlib.Core.List.{List, [], ◌∷◌}
use native.Mathlib.Decide.{ℕ_discrete}
use lib.ListN.{length}
use Rattle.table.specs.declared.geometry.Geometry.{Geometry}
use Rattle.table.specs.Geometry.{words_of}
use Rattle.table.specs.Stores.{Change, Stored}
use Rattle.table.specs.View.{Entry, view, changed, pass}
use Rattle.table.proofs.Laws.Via.{via_cut}
use Rattle.table.proofs.Laws.Pass.{Steps, last, next, Each, pass_via}

any_steps : {p z : Entry → Type 0} → ((e : Entry) → p e) → ((e : Entry) → z e) → (e : Entry) (cs : List Change) → Steps p z e cs
any_steps p z e [] = last (p e) (z e)
any_steps p z e (c ∷ cs) = next (p e) (any_steps p z (changed c e) cs)

module _ (g : Geometry) (nd it : ℕ → ℕ) (places : ℕ)
    (within : (k : ℕ) → k < places → (nd k < g.nodes) × (it k < g.items))
    (once : (k d : ℕ) → k < places → d < places → nd k ≡ nd d → it k ≡ it d → k ≡ d)
    (changes : ℕ → List Change) {left left' : ℕ} {t t' : List ℕ} (long : words_of g ≤ length t)
    (s : Stored g left (pass nd it changes places) t t' left') where
  -- what no place of the pass breaks holds at every cut
  pass_each :
      (p : ℕ → ℕ → Entry → Type 0)
      → ((k : ℕ) → k < places → Steps (p (nd k) (it k)) (λ e. Unit {0}) ((view g t).entry (nd k) (it k)) (changes k))
      → ((n b : ℕ) → p n b ((view g t).entry n b)) → Each p (view g t) (view g t')
  pass_each p local start =
      subst (λ u. Each p (view g t) (view g u)) (sym s.table)
      (via_cut t long
      (pass_via g p (view g t) nd it places within once (λ k e. Unit {0}) changes (view g t) local (record { marks = refl; entries = start }))
      left)

  pub pass_marks : (view g t').mark ≡ (view g t).mark
  pass_marks = (pass_each (λ n b e. Unit {0}) (λ k hk. any_steps (λ e. tt) (λ e. tt) _ _) (λ n b. tt)).marks

  -- an entry that the pass has not come to, or has nothing to do at
  pub pass_entry : (n b : ℕ) → ((k : ℕ) → k < places → nd k ≡ n → it k ≡ b → changes k ≡ []) → (view g t').entry n b ≡ (view g t).entry n b
  pass_entry n b nothing = (pass_each as_it_was local (λ n' b' p q. rw (p, q) refl)).entries n b refl refl
    where
      as_it_was : ℕ → ℕ → Entry → Type 0
      as_it_was n' b' e = n' ≡ n → b' ≡ b → e ≡ (view g t).entry n b

      local : (k : ℕ) → k < places → Steps (as_it_was (nd k) (it k)) (λ e. Unit {0}) ((view g t).entry (nd k) (it k)) (changes k)
      local k hk =
          elim (ℕ_discrete (nd k) n) [
            | no d ↦ any_steps (λ e p q. absurd (d p)) (λ e. tt) _ _
            | yes p ↦ elim (ℕ_discrete (it k) b) [
              | no d ↦ any_steps (λ e p q. absurd (d q)) (λ e. tt) _ _
              | yes q ↦ rw (nothing k hk p q) (last {e = (view g t).entry (nd k) (it k)} (λ p q. rw (p, q) refl) tt)
            ]
          ]
