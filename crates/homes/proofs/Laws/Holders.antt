-- The laws of `specs/Holders.antt`: the ways of the code, and the owner as an instance.
use Prim.Native.Nat.{ℕ, ◌<◌, ◌≤◌}
use mathlib.Core.Path.{◌≡◌, refl, ap}
use mathlib.Core.Bool.{Bool, false, ◌&&◌}
use native.Mathlib.Omega.{arith}
use native.Mathlib.Decide.{ℕ_discrete}
use lib.Dec.{leb, eqb}
use borrow.Author.Tests.{eq-eqb, ne_eqb, eqb-true, le-leb, lt-leb, leb-true}
use Rattle.counting.proofs.Laws.Tests.{both, and_both, bool_iff, either, or_left, or_right}
use Rattle.counting.specs.Counting.{first}
use Rattle.counting.proofs.Laws.First.{first_ext}
use Rattle.table.specs.declared.geometry.Geometry.{Geometry}
use Rattle.table.specs.Words.{current_of, owner, modified}
use Rattle.table.specs.View.{View, current, live}
use Rattle.entries.specs.Dirty.{owns, owns_at, owner_of}
use Rattle.homes.specs.Holders.{holds_at, first_holder}

-- whether a node holds a copy: not a dead one, of which nothing else is read
module _ (v : View) (b low high k : ℕ) {mark : ℕ} (h : mark ≡ v.mark k) where
  pub holds_dead : mark ≡ 0 → false ≡ holds_at v b low high k
  unfolding holds_at
  holds_dead e = rw (← h, eq-eqb mark 0 e) refl

  module _ {state now : ℕ} (e : mark ≡ 0 → ⊥) (s : state ≡ (v.entry k b).state) (c : now ≡ current_of state) where
    pub holds_above : low ≤ now → leb now high ≡ holds_at v b low high k
    unfolding holds_at
    holds_above l = rw (← h, ne_eqb mark 0 e, ← s, ← c, le-leb low now l) refl

    pub holds_below : now < low → false ≡ holds_at v b low high k
    unfolding holds_at
    holds_below l = rw (← h, ne_eqb mark 0 e, ← s, ← c, lt-leb low now l) refl

-- the search for a code of which a range of codes is a test
pub holder_first :
    (g : Geometry) (v : View) (b low high : ℕ) (p : ℕ → Bool) → ((c : ℕ) → (leb low c && leb c high) ≡ p c)
    → first_holder g v b low high ≡ first (λ n. live v n && p (current (v.entry n b))) g.nodes
unfolding first_holder holds_at
holder_first g v b low high p e = first_ext g.nodes _ _ (λ n l. ap (λ q. live v n && q) (e (current (v.entry n b))))

-- "Owner or Modified" are the codes from the one to the other
owner_codes : (c : ℕ) → (leb owner c && leb c modified) ≡ owns c
owner_codes c =
    bool_iff (leb owner c && leb c modified) (owns c)
    (λ h. let l = both (leb owner c) h in
    elim (ℕ_discrete c owner) [
      | yes e ↦ or_left _ (eq-eqb c owner e)
      | no e ↦ or_right (eqb c owner)
          (eq-eqb c modified (omega (arith, leb-true owner c l.0, leb-true c modified l.1)))
    ])
    (λ h. either (eqb c owner) h
    (λ e. let q = eqb-true c owner e in and_both (le-leb owner c (omega arith)) (le-leb c modified (omega arith)))
    (λ e. let q = eqb-true c modified e in and_both (le-leb owner c (omega arith)) (le-leb c modified (omega arith))))

pub owner_held : (g : Geometry) (v : View) (b : ℕ) → first_holder g v b owner modified ≡ owner_of g v b
unfolding owner_of owns_at
owner_held g v b = holder_first g v b owner modified owns owner_codes
