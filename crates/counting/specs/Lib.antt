-- Tests, sums, counts and searches over 0, 1, .. and n − 1: what the crates above count nodes and items with.
pub mod Counting
pub mod Bits
pub mod Cyclic
pub mod Values
pub mod code
