-- What a store keeps of one entry: its recovery copy for a roll back, the form of its state word, and frames within a bound.
use Prim.Native.Nat.{ℕ, ◌+◌, ◌≤◌}
use mathlib.Core.Path.{◌≡◌}
use mathlib.Core.Bool.{true}
use native.Mathlib.Omega.{arith}
use Rattle.table.specs.Words.{state_form}
use Rattle.table.specs.View.{Entry}
use Rattle.table.specs.Copies.{back_copy}
use Rattle.entries.specs.Frames.{frames_in}

-- what every single store keeps of an entry e₀ that has become e
pub record Safe (e₀ : Entry) (extra : ℕ) (e : Entry) : Type 0 where
  pub back : back_copy e ≡ back_copy e₀
  pub form : state_form e.state ≡ true
  pub frames : frames_in e.state ≤ frames_in e₀.state + extra

pub safe_with : {e₀ e : Entry} {d d' : ℕ} → d ≤ d' → Safe e₀ d e → Safe e₀ d' e
safe_with h s = record { back = s.back; form = s.form; frames = omega arith }
