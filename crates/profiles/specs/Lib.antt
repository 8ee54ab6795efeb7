pub mod Steps
pub mod Adding
pub mod Placed
pub mod Room
pub mod Spare
