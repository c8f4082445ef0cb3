-- What the arguments of the program ask for: `trace`, or `trace X Y`.
use Rattle.std.specs.Prelude.{ℕ, ◌+◌, min, cond, List, length, ltb, eqb, Option, None, Some, Result, Ok, Err}
use Rattle.picture.specs.Limits.{largest_coordinate}
use Rattle.console.specs.Digits.{digits_only, value_of}
use Rattle.tracing.specs.declared.pixel.Pixel.{Pixel}
use Rattle.trace.specs.declared.Usage.{Usage}
use Rattle.trace.specs.declared.Usage.TheVariants.{Unclear}

-- a number, if it may be a coordinate
abbrev pub within : ℕ → Option ℕ
within n = cond (ltb largest_coordinate n) None (Some n)

-- the coordinate that an argument tells, if it tells one
unfoldable pub coordinate_of : List ℕ → Option ℕ
coordinate_of arg = cond (eqb (length arg) 0) None (cond (digits_only arg) (within (min (value_of 0 arg) (largest_coordinate + 1))) None)

-- the pixel that two coordinates name
abbrev pub pixel_of : Option ℕ → Option ℕ → Result (Option Pixel) Usage
pixel_of None y = Err Unclear
pixel_of (Some x) None = Err Unclear
pixel_of (Some x) (Some y) = Ok (Some (record { x = x; y = y }))

-- what the arguments ask for, of which there are `count` with the program's name before them; one that is missing, or longer than 64 bytes, is empty
unfoldable pub asked_of : ℕ → List ℕ → List ℕ → Result (Option Pixel) Usage
asked_of count first second =
    cond (ltb count 2) (Ok None) (cond (eqb count 3) (pixel_of (coordinate_of first) (coordinate_of second)) (Err Unclear))
