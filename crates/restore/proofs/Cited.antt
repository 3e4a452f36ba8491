-- What each public call ensures, as a statement about tables: the contract itself, not a copy of it. These are the plans that the demands speak of,
-- so that a weaker contract is refused here. `a` holds the arguments in the code's order, `s` the same at the exit, `r` is the result.
use contract.Lifetimes
use borrow.Fn.World
use borrow.Fn.Kinds as Kinds
use denote.Triple.Clauses
use lib.ListN.{length}
use Rattle.table.specs.Answers.{Meets, Told}
use Rattle.layout.specs.Format.{format_of}
use Rattle.layout.specs.Stretch.{check_of, stretch_of}
use Rattle.homes.specs.Evict.{evict_of}
use Rattle.calls.specs.Read.{read_of}
use Rattle.calls.specs.Write.{write_of}
use Rattle.checkpoints.specs.Open.{open_of}
use Rattle.checkpoints.specs.Create.{create_of}
use Rattle.checkpoints.specs.Commit.{commit_of, commit_length_of, abandon_of}
use Rattle.recovery.specs.Recover.{recover_of, RecoverMeets}
use Rattle.restore.specs.Call.{CarriedOut}
use Rattle.restore.specs.Rehearsal.{Rehearsed}
use Rattle.layout.specs.contracts.format.format as format
use Rattle.layout.proofs.format.format.Kinds as format_kinds
use Rattle.layout.proofs.format.format.Reads as format_reads
use Rattle.layout.specs.contracts.check.check as check
use Rattle.layout.proofs.check.check.Kinds as check_kinds
use Rattle.layout.proofs.check.check.Reads as check_reads
use Rattle.layout.specs.contracts.stretch.stretch_answer as stretch
use Rattle.layout.proofs.stretch.stretch_answer.Kinds as stretch_kinds
use Rattle.layout.proofs.stretch.stretch_answer.Reads as stretch_reads
use Rattle.calls.specs.contracts.read.read as read
use Rattle.calls.proofs.read.read.Kinds as read_kinds
use Rattle.calls.proofs.read.read.Reads as read_reads
use Rattle.calls.specs.contracts.write.write as write
use Rattle.calls.proofs.write.write.Kinds as write_kinds
use Rattle.calls.proofs.write.write.Reads as write_reads
use Rattle.homes.specs.contracts.evict.evict as evict
use Rattle.homes.proofs.evict.evict.Kinds as evict_kinds
use Rattle.homes.proofs.evict.evict.Reads as evict_reads
use Rattle.checkpoints.specs.contracts.open.open as opening
use Rattle.checkpoints.proofs.open.open.Kinds as opening_kinds
use Rattle.checkpoints.proofs.open.open.Reads as opening_reads
use Rattle.checkpoints.specs.contracts.create.create as create
use Rattle.checkpoints.proofs.create.create.Kinds as create_kinds
use Rattle.checkpoints.proofs.create.create.Reads as create_reads
use Rattle.checkpoints.specs.contracts.commit.commit as commit
use Rattle.checkpoints.proofs.commit.commit.Kinds as commit_kinds
use Rattle.checkpoints.proofs.commit.commit.Reads as commit_reads
use Rattle.checkpoints.specs.contracts.length.commit_length as commit_length
use Rattle.checkpoints.proofs.length.commit_length.Kinds as commit_length_kinds
use Rattle.checkpoints.proofs.length.commit_length.Reads as commit_length_reads
use Rattle.checkpoints.specs.contracts.abandon.abandon as abandon
use Rattle.checkpoints.proofs.abandon.abandon.Kinds as abandon_kinds
use Rattle.checkpoints.proofs.abandon.abandon.Reads as abandon_reads
use Rattle.recovery.specs.contracts.recover.recover as recover
use Rattle.recovery.proofs.recover.recover.Kinds as recover_kinds
use Rattle.recovery.proofs.recover.recover.Reads as recover_reads
use Rattle.restore.specs.contracts.call.carry_out as carry_out
use Rattle.restore.proofs.call.carry_out.Kinds as carry_out_kinds
use Rattle.restore.proofs.call.carry_out.Reads as carry_out_reads
use Rattle.restore.specs.contracts.rehearse.rehearse as rehearse
use Rattle.restore.proofs.rehearse.rehearse.Kinds as rehearse_kinds
use Rattle.restore.proofs.rehearse.rehearse.Reads as rehearse_reads

pub format_says :
    (κs : Lifetimes.Lfts 1) (a : World.ArgsD format.signature κs) (r : World.ResD format.signature κs)
    (s : Clauses.AtExit (Kinds.ended_of 1 format_kinds.ps format_kinds.r) κs) → format_reads.Learnt κs a r s
    → Meets (format_of a.0.now a.1.0 a.1.1.0 a.1.1.1.0) a.1.1.1.1.0 a.0.now s.0.now r
format_says κs a r s h = h

pub check_says :
    (κs : Lifetimes.Lfts 1) (a : World.ArgsD check.signature κs) (r : World.ResD check.signature κs)
    (s : Clauses.AtExit (Kinds.ended_of 1 check_kinds.ps check_kinds.r) κs) → check_reads.Learnt κs a r s
    → Told (check_of a.0.now) a.0.now r
check_says κs a r s h = h

pub stretch_says :
    (κs : Lifetimes.Lfts 1) (a : World.ArgsD stretch.signature κs) (r : World.ResD stretch.signature κs)
    (s : Clauses.AtExit (Kinds.ended_of 1 stretch_kinds.ps stretch_kinds.r) κs) → stretch_reads.Learnt κs a r s
    → Told (stretch_of a.0.now a.1.0) a.0.now r
stretch_says κs a r s h = h

pub read_says :
    (κs : Lifetimes.Lfts 1) (a : World.ArgsD read.signature κs) (r : World.ResD read.signature κs)
    (s : Clauses.AtExit (Kinds.ended_of 1 read_kinds.ps read_kinds.r) κs) → read_reads.Learnt κs a r s
    → Meets (read_of a.0.now a.1.0 a.1.1.0) a.1.1.1.0 a.0.now s.0.now r
read_says κs a r s h = h

pub write_says :
    (κs : Lifetimes.Lfts 1) (a : World.ArgsD write.signature κs) (r : World.ResD write.signature κs)
    (s : Clauses.AtExit (Kinds.ended_of 1 write_kinds.ps write_kinds.r) κs) → write_reads.Learnt κs a r s
    → Meets (write_of a.0.now a.1.0 a.1.1.0 a.1.1.1.0) a.1.1.1.1.0 a.0.now s.0.now r
write_says κs a r s h = h

pub evict_says :
    (κs : Lifetimes.Lfts 1) (a : World.ArgsD evict.signature κs) (r : World.ResD evict.signature κs)
    (s : Clauses.AtExit (Kinds.ended_of 1 evict_kinds.ps evict_kinds.r) κs) → evict_reads.Learnt κs a r s
    → Meets (evict_of a.0.now a.1.0 a.1.1.0 a.1.1.1.0) a.1.1.1.1.0 a.0.now s.0.now r
evict_says κs a r s h = h

pub opening_says :
    (κs : Lifetimes.Lfts 1) (a : World.ArgsD opening.signature κs) (r : World.ResD opening.signature κs)
    (s : Clauses.AtExit (Kinds.ended_of 1 opening_kinds.ps opening_kinds.r) κs) → opening_reads.Learnt κs a r s
    → Meets (open_of a.0.now) a.1.0 a.0.now s.0.now r
opening_says κs a r s h = h

pub create_says :
    (κs : Lifetimes.Lfts 1) (a : World.ArgsD create.signature κs) (r : World.ResD create.signature κs)
    (s : Clauses.AtExit (Kinds.ended_of 1 create_kinds.ps create_kinds.r) κs) → create_reads.Learnt κs a r s
    → Meets (create_of a.0.now) a.1.0 a.0.now s.0.now r
create_says κs a r s h = h

pub commit_says :
    (κs : Lifetimes.Lfts 1) (a : World.ArgsD commit.signature κs) (r : World.ResD commit.signature κs)
    (s : Clauses.AtExit (Kinds.ended_of 1 commit_kinds.ps commit_kinds.r) κs) → commit_reads.Learnt κs a r s
    → Meets (commit_of a.0.now) a.1.0 a.0.now s.0.now r
commit_says κs a r s h = h

pub commit_length_says :
    (κs : Lifetimes.Lfts 1) (a : World.ArgsD commit_length.signature κs) (r : World.ResD commit_length.signature κs)
    (s : Clauses.AtExit (Kinds.ended_of 1 commit_length_kinds.ps commit_length_kinds.r) κs) → commit_length_reads.Learnt κs a r s
    → Told (commit_length_of a.0.now) a.0.now r
commit_length_says κs a r s h = h

pub abandon_says :
    (κs : Lifetimes.Lfts 1) (a : World.ArgsD abandon.signature κs) (r : World.ResD abandon.signature κs)
    (s : Clauses.AtExit (Kinds.ended_of 1 abandon_kinds.ps abandon_kinds.r) κs) → abandon_reads.Learnt κs a r s
    → Meets (abandon_of a.0.now) a.1.0 a.0.now s.0.now r
abandon_says κs a r s h = h

pub recover_says :
    (κs : Lifetimes.Lfts 2) (a : World.ArgsD recover.signature κs) (r : World.ResD recover.signature κs)
    (s : Clauses.AtExit (Kinds.ended_of 2 recover_kinds.ps recover_kinds.r) κs) → recover_reads.Learnt κs a r s
    → RecoverMeets (recover_of a.0.now a.1.0 (length a.1.1.0.now)) a.1.1.1.0 a.0.now s.0.now a.1.1.0.now s.1.1.0.now r
recover_says κs a r s h = h

pub carry_out_says :
    (κs : Lifetimes.Lfts 2) (a : World.ArgsD carry_out.signature κs) (r : World.ResD carry_out.signature κs)
    (s : Clauses.AtExit (Kinds.ended_of 2 carry_out_kinds.ps carry_out_kinds.r) κs) → carry_out_reads.Learnt κs a r s
    → CarriedOut a.1.0 a.1.1.1.0 a.0.now s.0.now a.1.1.0.now s.1.1.0.now r
carry_out_says κs a r s h = h

pub rehearse_says :
    (κs : Lifetimes.Lfts 5) (a : World.ArgsD rehearse.signature κs) (r : World.ResD rehearse.signature κs)
    (s : Clauses.AtExit (Kinds.ended_of 5 rehearse_kinds.ps rehearse_kinds.r) κs) → rehearse_reads.Learnt κs a r s
    → Rehearsed (record { calls = a.1.0.now; call = a.1.1.0; limit = a.1.1.1.0; lost = a.1.1.1.1.0; words = a.1.1.1.1.1.0.now; limits = a.1.1.1.1.1.1.0.now; scratch = length a.1.1.1.1.1.1.1.0.now }) a.0.now s.0.now a.1.1.1.1.1.1.1.0.now s.1.1.1.1.1.1.1.0.now r
rehearse_says κs a r s h = h
