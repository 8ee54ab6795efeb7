pub mod Line
pub mod Table
pub mod Index
pub mod Facts
pub mod Parts
pub mod Judged
