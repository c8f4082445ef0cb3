pub mod Rows
pub mod Words
pub mod Bytes
pub mod Sound
pub mod Turns
pub mod Ends
pub mod Settled
pub mod Request3
