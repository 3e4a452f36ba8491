-- What only the contracts of private functions cite.
pub mod Checkpoint
pub mod CommitCode
pub mod CreateCode
