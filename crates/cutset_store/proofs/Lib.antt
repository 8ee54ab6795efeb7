pub mod JobSets
pub mod Compared
pub mod Tables
pub mod Indexed
pub mod JudgeSteps
