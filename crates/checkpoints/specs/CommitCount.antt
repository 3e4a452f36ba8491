-- HOW LONG A SAVE IS, as one type. "A finished commit's count is exactly 2k + 4d − c, where c counts the live entries
-- with a Precommit and an Inv-CK side by side." All is counted on the table at entry.
use Rattle.std.specs.Prelude.{ℕ, ◌+◌, ◌-◌, ◌*◌, ◌≤◌, min, ◌≡◌, Bool, not, ◌&&◌, List, [], eqb, length}
use Rattle.counting.specs.Counting.{sum, count}
use Rattle.table.specs.declared.geometry.Geometry.{Geometry}
use Rattle.table.specs.declared.answers.Answer.TheVariants.{Done}
use Rattle.table.specs.Words.{current_of, kept_of, invalid}
use Rattle.table.specs.Stores.{Store}
use Rattle.table.specs.View.{View, view, live}
use Rattle.table.specs.Answers.{carry, answer_of}
use Rattle.entries.specs.Tally.{counts_of, is_created}
use Rattle.checkpoints.specs.Checkpoint.{is_precommit}
use Rattle.checkpoints.specs.Commit.{commit_of, commit_length_of}

-- ---- what is counted

-- d: created items
abbrev pub created_in : Geometry → View → ℕ → Bool
created_in g v b = is_created (counts_of v b g.nodes)

abbrev pub created_items : Geometry → View → ℕ
created_items g v = count (created_in g v) g.items

-- "2k + 4d": k live nodes, d created items
abbrev pub commit_bound : Geometry → View → ℕ
commit_bound g v = 2 * count (live v) g.nodes + 4 * created_items g v

-- "a Precommit and an Inv-CK side by side", by the state word
abbrev pub side_by_side : ℕ → Bool
side_by_side w = is_precommit (current_of w) && not (eqb (kept_of w) invalid)

-- c: "the live entries with" them, the entries of live nodes
abbrev pub live_side_by_side : Geometry → View → ℕ
live_side_by_side g v = sum (λ n. count (λ b. live v n && side_by_side (v.entry n b).state) g.items) g.nodes

-- "2k + 4d − c"
abbrev pub commit_length : Geometry → View → ℕ
commit_length g v = commit_bound g v - live_side_by_side g v

-- ---- THE CLAIM

-- of a table on which Commit is carried out by these stores
pub record CommitCounted (t : List ℕ) (g : Geometry) (ss : List Store) : Type 0 where
  -- the stores of the whole call and c together are 2k + 4d
  pub together : length ss + live_side_by_side g (view g t) ≡ commit_bound g (view g t)
  -- c is no more than 4d, so that the difference, which is never below 0, is the true one
  pub within : live_side_by_side g (view g t) ≤ 4 * created_items g (view g t)
  -- "A finished commit's count is exactly 2k + 4d − c": the count in Commit's answer; a limit that is less cuts it
  pub answered : (limit : ℕ) → answer_of (commit_of t) limit ≡ Done 0 (min limit (commit_length g (view g t)))
  -- and so it is told beforehand
  pub told : commit_length_of t ≡ carry g (commit_length g (view g t)) []

-- of every table on which Commit is carried out
pub record CommitCount : Type 0 where
  pub counted :
      (t : List ℕ) (g : Geometry) (value : ℕ) (ss : List Store) → commit_of t ≡ carry g value ss → CommitCounted t g ss
