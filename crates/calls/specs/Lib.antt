-- Read and Write as plans.
pub mod Transitions
pub mod Read
pub mod Write
