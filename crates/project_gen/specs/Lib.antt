pub mod Draws
pub mod Made
pub mod Example
pub mod Drafting
