pub mod Hidden
pub mod Tally
pub mod Overdraw
pub mod Lent
