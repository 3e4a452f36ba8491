-- An entry whose current place is another, its kept place as it was.
use Prim.Native.Nat.{ℕ, ◌<◌}
use mathlib.Core.Path.{◌≡◌}
use mathlib.Core.Bool.{true}
use native.Mathlib.Omega.{arith}
use Rattle.table.specs.Words.{state_word, state_form}
use Rattle.table.proofs.Laws.Words.{current_state, kept_state}
use Rattle.table.proofs.Laws.Forms.{form_facts}
use Rattle.table.specs.View.{Entry, current, kept}

-- with this current place and value
abbrev pub placed : Entry → ℕ → ℕ → Entry
placed e c x = record { state = state_word c (kept e); value = x; kept_value = e.kept_value }

module _ (e : Entry) (form : state_form e.state ≡ true) where
  pub placed_current : (c x : ℕ) → c < 8 → current (placed e c x) ≡ c
  placed_current c x h = let f = form_facts e.state form in current_state c (kept e) (omega arith) (omega arith)

  pub placed_kept : (c x : ℕ) → c < 8 → kept (placed e c x) ≡ kept e
  placed_kept c x h = let f = form_facts e.state form in kept_state c (kept e) (omega arith) (omega arith)
