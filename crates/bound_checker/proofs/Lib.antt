pub mod LineEnds
pub mod LineTexts
pub mod Beginnings
pub mod NextLines
pub mod Outcomes
pub mod FewLines
pub mod FedPieces
pub mod WrittenBounds
