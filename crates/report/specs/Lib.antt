pub mod Text
pub mod Image
pub mod Levels
pub mod Calls
