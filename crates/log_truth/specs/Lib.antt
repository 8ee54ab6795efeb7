pub mod Fates
pub mod Log
pub mod Holds
pub mod Refusal
pub mod Laws
pub mod Examples
