pub mod Arguments
pub mod Reach
pub mod Show
