-- Recover, as document 01 lists it.
pub mod Sides
pub mod Numbering
pub mod Recover
pub mod code
