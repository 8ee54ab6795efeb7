pub mod JobByJob
pub mod Moved
pub mod Spans
pub mod Ordered
pub mod PassSteps
pub mod OneOrder
pub mod SomeResult
