pub mod Instalments
pub mod Delivered
