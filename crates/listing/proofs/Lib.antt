pub mod Lines
pub mod Traces
pub mod Turns
pub mod Kept
pub mod Settled
pub mod Back
pub mod Pages
mod Tables
