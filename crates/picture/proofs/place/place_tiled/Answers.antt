-- `place::place_tiled` meets its contract. Assumes nothing.
use Rattle.std.proofs.Common.{refl, arith}
use Rattle.picture.specs.Place.{spot_of}
use Rattle.picture.proofs.Places.{tile_fits}
use Rattle.picture.proofs.place.place_tiled.Goals as goal

pub returns : goal.returns
unfolding spot_of
returns c = let a = c.args in (refl, omega (arith, tile_fits a.y a.line (omega arith) (omega arith)))
