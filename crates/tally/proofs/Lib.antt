pub mod HiddenLaws
pub mod Adding
pub mod Figures
pub mod Words
pub mod Entries
pub mod Overdraw
