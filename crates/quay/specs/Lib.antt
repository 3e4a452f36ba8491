-- What the contracts of quay cite.
pub mod code
