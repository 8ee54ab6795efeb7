pub mod Drafted
pub mod Line
