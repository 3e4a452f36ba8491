-- A call as a value, the plain memory, and the restore.

-- ---- a call as a value, the plain memory, runs, strikes, histories, and THE STATEMENTS of demands 2 and 3
pub mod Call
pub mod Operations
pub mod Memory
pub mod Run
pub mod Strike
pub mod OneItem
pub mod History
pub mod Demand2
pub mod Save
pub mod Demand3
-- ---- what no call reads
pub mod Unread
pub mod Rehearsal
pub mod Examples
pub mod code
