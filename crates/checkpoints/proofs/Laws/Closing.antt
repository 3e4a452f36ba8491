-- Laws of `specs/Checkpoint.antt`: how an open checkpoint ends in an entry.
use Prim.Native.Nat.{ℕ, ◌*◌, ◌/◌, ◌%◌, ◌^◌, ◌<◌}
use mathlib.Core.Path.{◌≡◌, refl, ap, ◌∙◌}
use mathlib.Core.Bool.{Bool, true, false}
use mathlib.Core.List.{[], ◌∷◌}
use native.Mathlib.Omega.{arith}
use Rattle.std.specs.Int.{rotate_left, w64}
use Rattle.std.proofs.lemmas.Nat.{le_or_l, le_or_r}
use borrow.Author.Tests.{eq-eqb, ne_eqb}
use Rattle.table.specs.declared.changes.Event.TheVariants.{Commit, Abandon}
use Rattle.table.specs.Words.{invalid, precommit1, precommit2, current_of, kept_of}
use Rattle.table.specs.Changes.{change_of}
use Rattle.table.specs.Stores.{state_to}
use Rattle.table.specs.View.{Entry, current}
use Rattle.checkpoints.specs.Checkpoint.{is_precommit, to_commit, commit_change, abandon_change}

-- ---- the ways of the code

-- an entry of this state word
module _ (e : Entry) {state : ℕ} (h : state ≡ e.state) where
  module _ {q : Bool} (k : q ≡ to_commit state) where
    pub commit_changes :
        q ≡ true → {c next : ℕ} → c ≡ current_of state → next ≡ change_of c Commit
        → commit_change e ≡ state_to next invalid ∷ []
    unfolding commit_change
    commit_changes y p n = rw (← h, ← k, y, n, p) refl

    pub commit_stays : q ≡ false → commit_change e ≡ []
    unfolding commit_change
    commit_stays y = rw (← h, ← k, y) refl

  module _ {c : ℕ} (p : c ≡ current_of state) where
    current_is : c ≡ current e
    current_is = p ∙ ap current_of h

    pub abandon_changes :
        {k : ℕ} → k ≡ kept_of state → is_precommit c ≡ true → {next : ℕ} → next ≡ change_of c Abandon
        → abandon_change e ≡ state_to next k ∷ []
    unfolding abandon_change
    abandon_changes q y n = rw (← current_is, y, n, q, h) refl

    pub abandon_stays : is_precommit c ≡ false → abandon_change e ≡ []
    unfolding abandon_change
    abandon_stays y = rw (← current_is, y) refl

-- a word that is a code under 6 once it is turned by four bits
pub commits_not : (w : ℕ) → rotate_left w64 w 4 < 6 → false ≡ to_commit w
commits_not w l =
    let q : w * 2 ^ 4 % 2 ^ 64 < 6 = omega (arith, l, le_or_l (w * 2 ^ 4 % 2 ^ 64) (w / 2 ^ 60)) in
    let c : current_of w < 6 = omega (arith, l, le_or_r (w * 2 ^ 4 % 2 ^ 64) (w / 2 ^ 60)) in
    let k : kept_of w ≡ 0 = omega arith in
    let p = ne_eqb (current_of w) precommit1 (λ z. omega arith) in
    let q = ne_eqb (current_of w) precommit2 (λ z. omega arith) in
    rw (p, q, eq-eqb (kept_of w) 0 k) refl
