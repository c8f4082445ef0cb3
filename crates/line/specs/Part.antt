-- What part of the whole picture a unit of a board has: of the places that its pixels have in rows, those whose remainder is its own.
use Rattle.std.specs.Prelude.{ℕ, ◌%◌, Bool, cond, ◌==◌, bit_and, nat_lt}
use Rattle.picture.specs.declared.Frame.{Frame}
use Rattle.line.specs.declared.part.Part.{Part}

-- a part whose places are those that the mask takes to the unit's number; shifted right, each is the place in the unit's memory
abbrev pub part : ℕ → ℕ → ℕ → Part
part shift mask unit = record { shift = shift; mask = mask; unit = unit }

-- that of a unit of two, and of four
unfoldable pub part_of : Frame → Part
part_of frame = cond (nat_lt frame.layout 4) (part 1 1 (frame.layout % 2)) (part 2 3 (frame.layout % 4))

-- a place of the whole picture is one of the unit's
unfoldable pub has_place : Part → ℕ → Bool
has_place p at = bit_and at p.mask == p.unit
