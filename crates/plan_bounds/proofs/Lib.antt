pub mod TailSteps
pub mod Parts
pub mod SupplySteps
pub mod LowerSteps
pub mod NodeBounds
