pub mod ModeSteps
pub mod JobSteps
pub mod EntrySteps
pub mod PlacedInTurn
pub mod PlanFacts
