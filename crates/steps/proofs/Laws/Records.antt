-- Laws of `specs/Steps.antt`: the bytes of a record.
use Rattle.std.specs.Prelude.{None, Option}
use Rattle.std.specs.Int.{w64, from_be_bytes}
use Rattle.std.proofs.Common.{◌≡◌, ℕ, ◌+◌, ◌<◌, ◌≤◌, List, length, get_or, take, drop, refl, ap, ◌∙◌, arith, length-drop, get_or-drop, le-ltb, lt-ltb}
use Rattle.std.proofs.lemmas.List.{get_or-take}
use Rattle.restore.specs.declared.call.Call.{Call}
use Rattle.steps.specs.Steps.{step_of, word_at, record_of}

-- a law for each way of the code
module _ (bytes : List ℕ) where
  pub record_short : length bytes < 16 → None ≡ record_of bytes
  unfolding record_of
  record_short h = rw (lt-ltb _ _ h) refl

  -- a word of eight bytes
  word_is : (k : ℕ) → from_be_bytes w64 (take 8 (drop k bytes)) ≡ word_at bytes k
  word_is k =
      simp (
        first,
        at 1 (omega arith),
        at 2 (omega arith),
        at 3 (omega arith),
        at 4 (omega arith),
        at 5 (omega arith),
        at 6 (omega arith),
        at 7 (omega arith),
      )
      refl
    where
      at : (i : ℕ) → i < 8 → get_or (take 8 (drop k bytes)) i 0 ≡ get_or bytes (k + i) 0
      at i h = get_or-take 8 (drop k bytes) i 0 h ∙ get_or-drop k bytes i 0

      first : get_or (take 8 (drop k bytes)) 0 0 ≡ get_or bytes k 0
      first = at 0 (omega arith) ∙ ap (λ (j : ℕ). get_or bytes j 0) (omega arith)

  pub record_whole :
      {first rest second : List ℕ} {r : Option Call} → first ≡ take 8 bytes → rest ≡ drop 8 bytes → 8 ≤ length rest → second ≡ take 8 rest
      → r ≡ step_of (from_be_bytes w64 first) (from_be_bytes w64 second) → r ≡ record_of bytes
  unfolding record_of
  record_whole p q long s e =
      let whole : 16 ≤ length bytes = omega (arith, ap length q, length-drop 8 bytes) in
      rw (le-ltb _ _ whole, ← word_is 0, ← word_is 8) (rw (p, s, q) at e)
