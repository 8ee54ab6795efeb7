pub mod PassSteps
pub mod NoteSteps
pub mod HearSteps
pub mod BoundSteps
pub mod OfferSteps
pub mod WorkSteps
pub mod VisitSteps
