-- how a chip whose memories lie in tiles does beside a plain one
pub mod Tiles
