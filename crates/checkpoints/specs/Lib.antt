-- Open, Create, Commit and Abandon as plans.
pub mod Checkpoint
pub mod Open
pub mod Create
pub mod CreateRoom
pub mod Commit
pub mod CommitCount
pub mod code
