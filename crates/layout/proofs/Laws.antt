-- The laws of the definitions of `specs/`, for the proofs of this crate and of the crates over it.
pub mod Format
pub mod Rows
pub mod FormatRow
pub mod FirstPlaces
pub mod FormattedView
pub mod Formatted
pub mod Stretch
