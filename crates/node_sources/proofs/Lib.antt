mod Nodes
mod Thefts
mod Takings
mod Reached
mod NewSeats
mod NewReaches
pub mod Stays
mod Joins
