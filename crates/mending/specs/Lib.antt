pub mod Mend
pub mod Sort
pub mod Request
