-- Commit stores nothing at word 0.
use Rattle.table.specs.declared.geometry.Geometry.{Geometry}
use Rattle.table.proofs.Laws.Stores.{All, all_then}
use Rattle.table.specs.View.{View}
use Rattle.checkpoints.specs.Checkpoint.{commit_change}
use Rattle.checkpoints.specs.Commit.{committing_mark, committed_mark, commit_stores}
use Rattle.homes.proofs.Laws.SoundKept.{Off}
use Rattle.checkpoints.proofs.Laws.MarksSound.{marks_off, entries_off}

pub commit_off : (g : Geometry) (v : View) → All (Off g) (commit_stores g v)
unfolding commit_stores
commit_off g v = all_then (all_then (marks_off g v committing_mark) (entries_off g v commit_change)) (marks_off g v committed_mark)
