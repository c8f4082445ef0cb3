pub mod Lines
pub mod Whole
pub mod Looking
pub mod Coming
