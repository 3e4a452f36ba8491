-- The laws of the definitions of `specs/`, for the proofs of this crate and of the crates over it.
pub mod Steps
pub mod StepCode
pub mod Records
pub mod Serving
pub mod Lines
pub mod Run
pub mod StepExamples
