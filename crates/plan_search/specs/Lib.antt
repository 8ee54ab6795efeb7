pub mod Tools
pub mod Plans
