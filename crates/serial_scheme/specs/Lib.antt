pub mod Rules
pub mod Priority
