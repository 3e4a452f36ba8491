-- The definitions that the contracts of `steps` cite: a record to a step, a step served, its line, the whole of quay.
pub mod Steps
pub mod Lines
pub mod Run
pub mod code
