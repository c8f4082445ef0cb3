-- how pictures are saved and reloaded
pub mod Reload
