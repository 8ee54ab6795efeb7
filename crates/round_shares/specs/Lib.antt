pub mod Ends
pub mod Part
pub mod Share
pub mod Crew
pub mod Laws
