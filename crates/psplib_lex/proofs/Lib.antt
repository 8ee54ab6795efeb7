pub mod Cuts
pub mod Spans
pub mod Lexed
pub mod Kept
pub mod Capped
