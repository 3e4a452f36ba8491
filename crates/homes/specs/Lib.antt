-- What calls ask of a node and an item, where a copy may go, and Evict as a plan.
pub mod Admission
pub mod Places
pub mod Home
pub mod Holders
pub mod Evict
pub mod code
