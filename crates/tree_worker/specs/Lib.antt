pub mod Live
pub mod Worker
pub mod Reasons
pub mod Offers
pub mod Publishes
pub mod Visits
