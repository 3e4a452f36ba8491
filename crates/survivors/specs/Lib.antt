-- The survivors of a recovery.

pub mod Survivors
pub mod Direction
