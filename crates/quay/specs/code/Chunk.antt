-- A chunk of the file: what it takes from the reader and gives the writer.
use Rattle.std.specs.Prelude.{◌≡◌, ℕ, List, length, Option}
use Rattle.std.specs.declared.ops.ControlFlow.{ControlFlow}
use Rattle.std.specs.declared.ops.ControlFlow.TheVariants.{Continue, Break}
use Rattle.std.specs.Io.KnownBytes.{Consumes, Appends, IsAtEnd}
use Rattle.steps.specs.declared.serve.Progress.{Progress}
use Rattle.steps.specs.Run.{Quay, lines_of, left_by}

-- the progress, whether another chunk may follow or not
abbrev pub progress_of : ControlFlow Progress Progress → Progress
progress_of (Continue after) = after
progress_of (Break last) = last

-- if another chunk may follow, the bytes are a whole chunk, and else the reader is at its end
abbrev pub Follows : List ℕ → Option (List ℕ) → ControlFlow Progress Progress → Type 0
Follows bytes file' (Continue after) = length bytes ≡ 1024
Follows bytes file' (Break last) = IsAtEnd file'

-- some bytes are read, their lines written, and quay is where they leave it, with the progress
pub record ChunkRun (q : Quay) (q' : Progress → Quay) (file file' lines lines' : Option (List ℕ)) (next : ControlFlow Progress Progress) : Type 0 where
  pub bytes : List ℕ
  pub read : Consumes file file' bytes
  pub state : q' (progress_of next) ≡ left_by q bytes
  pub written : Appends lines lines' (lines_of q bytes)
  pub follows : Follows bytes file' next
