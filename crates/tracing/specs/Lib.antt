pub mod Meaning
pub mod Trace
pub mod Watch
pub mod Lent
