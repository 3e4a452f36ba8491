-- The laws of the definitions of `specs/`, for the proofs of this crate and of the crates over it.
pub mod Tests
pub mod Differences
pub mod Counting
pub mod Bits
pub mod First
pub mod Cyclic
pub mod Values
pub mod Exists
pub mod Ranks
pub mod Crowded
pub mod Chains
