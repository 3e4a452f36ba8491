-- The calls on a table as a whole: Format, Check and Stretch.
pub mod Format
pub mod Formatted
pub mod Stretch
pub mod code
