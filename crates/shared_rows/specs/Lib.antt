pub mod Misses
pub mod Rows
pub mod Looked
