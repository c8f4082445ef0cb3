-- a tiled chip does beside a plain one as request [9] asks
pub mod Tiles
