-- `carry_out` meets its contract: the call that it is given has its plan and its scratch. Assumes nothing.
use Rattle.restore.proofs.Laws.CallCode.{out_format, out_check, out_stretch, out_read, out_write, out_evict, out_open, out_create, out_commit, out_abandon, out_recover}
use Rattle.restore.proofs.call.carry_out.Goals as goal

pub returns-in-Format : goal.returns-in-Format
returns-in-Format c = search out_format

pub returns-in-Check : goal.returns-in-Check
returns-in-Check c = search out_check

pub returns-in-Stretch : goal.returns-in-Stretch
returns-in-Stretch c = search out_stretch

pub returns-in-Read : goal.returns-in-Read
returns-in-Read c = search out_read

pub returns-in-Write : goal.returns-in-Write
returns-in-Write c = search out_write

pub returns-in-Evict : goal.returns-in-Evict
returns-in-Evict c = search out_evict

pub returns-in-Open : goal.returns-in-Open
returns-in-Open c = search out_open

pub returns-in-Create : goal.returns-in-Create
returns-in-Create c = search out_create

pub returns-in-Commit : goal.returns-in-Commit
returns-in-Commit c = search out_commit

pub returns-in-Abandon : goal.returns-in-Abandon
returns-in-Abandon c = search out_abandon

pub returns-in-Recover : goal.returns-in-Recover
returns-in-Recover c = search out_recover
