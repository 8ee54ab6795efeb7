pub mod DraftedJobs
pub mod DraftLimits
pub mod CycleRefused
pub mod CycleCases
pub mod OneReading
