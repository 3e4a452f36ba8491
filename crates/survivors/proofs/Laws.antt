-- The laws of the definitions of `specs/` and the ways of the code, for the proofs of this crate and of the crates over it.
pub mod SurvivorsCode
pub mod ClosingMarksCode
