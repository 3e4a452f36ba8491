-- The laws of the definitions of `specs/`, for the proofs of this crate and of the crates over it.
-- ---- the ways of the code
pub mod CallCode
pub mod OperationCode
-- ---- every cut of every other call leaves survivors what they must have
pub mod Surviving
pub mod Standing
pub mod KeptReady
pub mod MovingReady
pub mod CommitReady
pub mod CallsReady
-- ---- the relation to the plain memory, call by call and strike by strike
pub mod Good
pub mod GoodStep
pub mod GoodCall
pub mod GoodValues
pub mod RecoverGood
pub mod HitReady
pub mod CutReady
pub mod CutShape
pub mod Attempts
pub mod StrikeGood
pub mod HistoryTheorem
-- ---- demands 2 and 3
pub mod HomeRefused
pub mod LastWritten
pub mod NeverForTable
pub mod Demand2Theorem
pub mod SaveTheorem
pub mod RunPoints
pub mod Demand3Theorem
-- ---- what no call reads
pub mod UnreadTheorem
-- ---- no list is as long as 2^16
pub mod Lengths
pub mod CallLengths
pub mod RecoverLength
pub mod WholeAt
-- ---- the rehearsal, and the examples
pub mod RehearsalHit
pub mod RehearseCode
pub mod RehearsalExample
pub mod Examples
