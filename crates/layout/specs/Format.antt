-- Format: "all 1 + N + 3 × N × M words, ascending; other words untouched. All values 0. Item b is Shared-CK1 on node 2b mod N and Shared-CK2
-- on (2b + 1) mod N. Phase 0, number 0."
use Rattle.std.specs.Prelude.{ℕ, ◌+◌, ◌*◌, ◌/◌, ◌%◌, Bool, cond, List, [], ◌∷◌, ◌++◌, eqb, leb, ltb, length, None, Option, Some}
use Rattle.table.specs.declared.geometry.Geometry.{Geometry}
use Rattle.table.specs.declared.answers.Refusal.TheVariants.{EmptyOrShort, NoGeometry, TooManyFrames}
use Rattle.table.specs.Words.{invalid, shared_ck1, shared_ck2, mark_word}
use Rattle.table.specs.Geometry.{geometry_of, words_of}
use Rattle.table.specs.Stores.{Change, state_to, value_to, kept_to, Store, size_store, mark_store, runs}
use Rattle.table.specs.View.{pass}
use Rattle.table.specs.Answers.{Plan, refuse, carry}

-- ---- the stores

-- "Item b is Shared-CK1 on node 2b mod N and Shared-CK2 on (2b + 1) mod N."
abbrev pub first_place : ℕ → ℕ → ℕ → ℕ
first_place N n b = cond (eqb n (2 * b % N)) shared_ck1 (cond (eqb n ((2 * b + 1) % N)) shared_ck2 invalid)

-- "All values 0."
abbrev pub first_entry : Geometry → ℕ → ℕ → List Change
first_entry g n b = state_to (first_place g.nodes n b) invalid ∷ value_to 0 ∷ kept_to 0 ∷ []

-- "Phase 0, number 0."
abbrev pub first_mark : ℕ → List Store
first_mark n = mark_store n (mark_word 0 0) ∷ []

-- the entries by node, then item: so their words ascend
unfoldable pub first_entries : Geometry → List Store
first_entries g =
    pass (λ k. k / g.items) (λ k. k % g.items) (λ k. first_entry g (k / g.items) (k % g.items)) (g.nodes * g.items)

-- "all 1 + N + 3 × N × M words, ascending"
unfoldable pub format_stores : Geometry → List Store
format_stores g = (size_store g ∷ []) ++ (runs first_mark g.nodes ++ first_entries g)

-- ---- the plan: "Format: 3, then 1 too short", and "20 for F > 2 × M, after 3 and before 1" (K7)

-- K7: "A node has 2 × M places", a current and a kept one for each item; frames beyond them "can never be used"
abbrev pub unusable_frames : Geometry → Bool
unusable_frames g = ltb (2 * g.items) g.frames

unfoldable pub format_made : List ℕ → Option Geometry → Plan
format_made t None = refuse NoGeometry
format_made t (Some g) =
    cond (unusable_frames g) (refuse TooManyFrames)
    (cond (leb (words_of g) (length t)) (carry g 0 (format_stores g)) (refuse EmptyOrShort))

abbrev pub format_of : List ℕ → ℕ → ℕ → ℕ → Plan
format_of t nodes items frames = format_made t (geometry_of nodes items frames)
