pub mod Tails
pub mod Work
