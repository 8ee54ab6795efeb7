pub mod Placings
pub mod Order
pub mod Passes
pub mod Improved
pub mod Laws
pub mod Room
