-- The table as words: what they hold, where they lie, what stores do to them, what a table shows; and what a call answers.
pub mod Words
pub mod Geometry
pub mod Changes
pub mod Stores
pub mod View
pub mod Made
pub mod Copies
pub mod Answers
pub mod code
