-- What only the contracts of private functions cite.
pub mod Counting
pub mod Bits
