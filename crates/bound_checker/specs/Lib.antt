pub mod Text
pub mod Beginning
pub mod Judged
pub mod Stages
pub mod Checker
pub mod Laws
