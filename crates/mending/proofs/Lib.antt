pub mod Words
pub mod Ends
pub mod Sorting
pub mod Recording
pub mod Calls
pub mod Settled
pub mod Request
pub mod Worked
