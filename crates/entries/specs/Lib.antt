-- The entries of a table: frames in use, soundness, the table checks.
pub mod Frames
pub mod Dirty
pub mod Tally
pub mod Sound
pub mod Check
pub mod code
