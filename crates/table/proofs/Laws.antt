-- The laws of the definitions of `specs/`, for the proofs of this crate and of the crates over it.
pub mod Words
pub mod Forms
pub mod Geometry
pub mod Changes
pub mod Stores
pub mod View
pub mod Puts
pub mod ViewAfter
pub mod Via
pub mod Pass
pub mod PassLeaves
pub mod PassTurns
pub mod MarksPass
pub mod Copies
pub mod Answers
pub mod Made
