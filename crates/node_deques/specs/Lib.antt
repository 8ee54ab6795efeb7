pub mod Nodes
pub mod Views
pub mod Passes
pub mod Rule
pub mod Steps
pub mod Handles
