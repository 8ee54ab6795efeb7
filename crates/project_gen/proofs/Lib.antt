pub mod DrawSteps
pub mod JobSteps
pub mod Ranges
pub mod DraftSteps
pub mod NeedSteps
pub mod MadeDrafts
