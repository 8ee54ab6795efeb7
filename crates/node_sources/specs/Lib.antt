pub mod Places
pub mod Source
pub mod Seats
pub mod Thefts
pub mod Steps
pub mod Settled
pub mod Seating
pub mod Joins
