pub mod CommandWords
pub mod OptionWords
