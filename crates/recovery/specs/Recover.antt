-- Recover: its stages one after the other, its refusals, its plan. Each stage is a function of the view that it finds.
use Rattle.std.specs.Prelude.{ℕ, ◌+◌, Bool, not, cond, ◌&&◌, List, ◌++◌, ltb, replicate, drop, ◌≡◌, Err, Ok, Option, Result}
use Rattle.table.specs.declared.geometry.Geometry.{Geometry}
use Rattle.table.specs.declared.answers.Refusal.{Refusal}
use Rattle.table.specs.declared.answers.Refusal.TheVariants.{NotSound, NoNode, TooFewNodes, NoRecoveryCopy, ShortScratch}
use Rattle.table.specs.Stores.{Store}
use Rattle.table.specs.View.{View, view, updates}
use Rattle.table.specs.Answers.{Plan, refuse, nothing_left, carry, Meets}
use Rattle.entries.specs.Sound.{marks_form, nodes_sound}
use Rattle.entries.specs.Check.{sizes_of}
use Rattle.homes.specs.Admission.{Admission, plan_admitted}
use Rattle.survivors.specs.Survivors.{lost_stores, survivors, lost_outside, too_few, closing_stores}
use Rattle.recovery.specs.Sides.{items_fit, roll_stores}
use Rattle.recovery.specs.Numbering.{number_stores, partners_stores}
use Rattle.table.specs.declared.answers.Answer.{Answer}

-- ---- the stores

-- one stage, then another on the view that it leaves
unfoldable pub followed : (View → List Store) → (View → List Store) → View → List Store
followed f h w = f w ++ h (updates (f w) w)

-- what is stored on the survivors
unfoldable pub survivor_stores : Geometry → View → List Store
survivor_stores g = followed (roll_stores g) (followed (number_stores g) (followed (partners_stores g) (closing_stores g)))

unfoldable pub recover_stores : Geometry → Option ℕ → View → List Store
recover_stores g lost v = lost_stores lost ++ survivor_stores g (survivors lost v)

-- ---- the refusals: "Recover: 1, 3, 1; 4; 16 scratch under M + N words; 2, but word forms and frames of survivors only; 14 under two survivors, or
-- (k − 1) × F < 2 × M − 1 with k survivors; 15 an item without a recovery copy on the chosen side, or two that differ."

abbrev pub scratch_words : Geometry → ℕ
scratch_words g = g.items + g.nodes

-- "word forms and frames of survivors only"
unfoldable pub survivors_formed : Geometry → View → Bool
survivors_formed g w = marks_form w g.nodes && nodes_sound g w

-- ---- the plan

-- 4; 16; 2; 14; 15, in this order; w is the view of the survivors
unfoldable pub recover_admission : Geometry → View → Option ℕ → ℕ → Admission
recover_admission g w lost scratch =
    cond (lost_outside g lost) (Err NoNode)
    (cond (ltb scratch (scratch_words g)) (Err ShortScratch)
    (cond (not (survivors_formed g w)) (Err NotSound)
    (cond (too_few g w) (Err TooFewNodes)
    (cond (not (items_fit g w)) (Err NoRecoveryCopy)
    (Ok tt)))))

-- 1, 3, 1 before it
unfoldable pub recover_checked : List ℕ → Option ℕ → ℕ → Result Geometry Refusal → Plan
recover_checked t lost scratch (Err r) = refuse r
recover_checked t lost scratch (Ok g) =
    plan_admitted (recover_admission g (survivors lost (view g t)) lost scratch) (carry g 0 (recover_stores g lost (view g t)))

-- the table, the lost node or none, and the length of the scratch, whose words are not read
unfoldable pub recover_of : List ℕ → Option ℕ → ℕ → Plan
recover_of t lost scratch = recover_checked t lost scratch (sizes_of t)

-- "Accepted, it leaves the first M + N scratch words zero and the rest unchanged."
abbrev pub scratch_after : Plan → List ℕ → List ℕ
scratch_after (refuse r) s = s
scratch_after nothing_left s = s
scratch_after (carry g x ss) s = replicate (scratch_words g) 0 ++ drop (scratch_words g) s

-- THE CONTRACT of a recovery: what any call owes, and the scratch
pub record RecoverMeets (p : Plan) (limit : ℕ) (t t' s s' : List ℕ) (r : Answer) : Type 0 where
  pub meets : Meets p limit t t' r
  pub scratch : s' ≡ scratch_after p s
