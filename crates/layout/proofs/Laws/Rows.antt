-- The laws of `specs/code/Rows.antt`.
use Prim.Native.Nat.{ℕ, ◌+◌, ◌-◌, ◌≤◌, ◌<◌}
use mathlib.Core.Path.{◌≡◌, refl, ap, sym, ◌∙◌}
use mathlib.Core.List.{map}
use native.Mathlib.Omega.{arith}
use native.Mathlib.Numerals.{add-one}
use borrow.Author.Tests.{eq-eqb, ne_eqb, lt-ltb, le-ltb}
use Rattle.table.specs.declared.stores.Stores.{Stores}
use Rattle.table.specs.Words.{invalid}
use Rattle.table.specs.Stores.{entry_store, runs}
use Rattle.table.specs.Made.{Made, MadeIn}
use Rattle.table.proofs.Laws.Stores.{loop-turns}
use Rattle.table.proofs.Laws.Made.{made_as, made_starts, made_turn, made_ends}
use Rattle.layout.specs.code.Rows.{next_ahead, ahead_at, place_ahead, fresh_entry, row_entry}

-- ---- the ways of the code

pub next_near : (around ahead : ℕ) → ahead < 2 → ahead + around ≡ next_ahead around ahead
unfolding next_ahead
next_near around ahead h = rw (lt-ltb ahead 2 h)

pub next_far : (around ahead : ℕ) → 2 ≤ ahead → ahead - 2 ≡ next_ahead around ahead
unfolding next_ahead
next_far around ahead h = rw (le-ltb ahead 2 h)

module _ (first second ahead : ℕ) where
  pub place_first : ahead ≡ 0 → first ≡ place_ahead first second ahead
  unfolding place_ahead
  place_first e = rw (eq-eqb ahead 0 e)

  pub place_second : ahead ≡ 1 → second ≡ place_ahead first second ahead
  unfolding place_ahead
  place_second e = rw (ne_eqb ahead 0 (λ z. omega arith), eq-eqb ahead 1 e)

  pub place_none : 2 ≤ ahead → invalid ≡ place_ahead first second ahead
  unfolding place_ahead
  place_none h = rw (ne_eqb ahead 0 (λ z. omega arith), ne_eqb ahead 1 (λ z. omega arith))

-- the loop: the items before b are stored
pub record Row (n first second around : ℕ) (s : Stores) (b ahead : ℕ) (s' : Stores) : Type 0 where
  pub distance : ahead ≡ ahead_at around n b
  pub made : Made s (runs (row_entry n first second around) b) s'

module _ {n first second around : ℕ} {s : Stores} where
  pub row_starts : Row n first second around s 0 n s
  unfolding ahead_at
  row_starts = record { distance = refl; made = made_starts (row_entry n first second around) s }

  pub row_turns :
      {b ahead place r : ℕ} {s₁ s₂ : Stores} → Row n first second around s b ahead s₁ → place ≡ place_ahead first second ahead
      → MadeIn s₁ n b (fresh_entry place) s₂ → r ≡ next_ahead around ahead → Row n first second around s (b + 1) r s₂
  unfolding ahead_at
  row_turns {b} w p m e =
      record {
        distance = rw add-one (e ∙ ap (next_ahead around) w.distance);
        made =
            made_turn w.made
            (made_as (ap (λ x. map (entry_store n b) (fresh_entry x)) (ap (place_ahead first second) (sym w.distance) ∙ sym p)) m)
            (loop-turns (row_entry n first second around) b w.made.stored);
      }

  pub row_ends :
      {b ahead : ℕ} {s' : Stores} → Row n first second around s b ahead s' → b ≤ s.g.items → s.g.items ≤ b
      → Made s (runs (row_entry n first second around) s.g.items) s'
  row_ends {b} w h k = made_ends (row_entry n first second around) b _ h k w.made
