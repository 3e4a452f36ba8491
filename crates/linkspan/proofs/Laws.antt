-- The laws of the definitions of `specs/`, for the proofs of this crate and of the crates over it.
pub mod Report
pub mod Arguments
pub mod Words
pub mod Part
