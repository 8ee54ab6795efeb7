pub mod Round
pub mod Closing
pub mod Going
pub mod Found
pub mod Laws
