pub mod Words
pub mod Aimed
pub mod Whole
