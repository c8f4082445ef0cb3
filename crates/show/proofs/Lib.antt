pub mod Asking
pub mod Pages
pub mod Reaching
