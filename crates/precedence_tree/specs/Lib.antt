pub mod Active
pub mod Starts
pub mod Needs
pub mod Frontier
pub mod Tails
pub mod Base
pub mod Node
pub mod Children
