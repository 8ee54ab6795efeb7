pub mod Line
pub mod Report
pub mod Text
pub mod Reading
pub mod Lines
pub mod Laws
