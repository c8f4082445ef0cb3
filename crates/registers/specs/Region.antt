-- Regions of pictures (request [1]): pixels go from the first corner towards the second, along x first.
use Rattle.std.specs.Prelude.{ℕ, ◌+◌, ◌-◌, Bool, cond, ltb, eqb}
use Rattle.registers.specs.declared.Region.{Region}
use Rattle.registers.specs.declared.regions.Way.{Way}
use Rattle.registers.specs.declared.regions.Way.TheVariants.{Shut, ToMemory, FromMemory}
use Rattle.registers.specs.declared.Registers.{Registers}
use Rattle.registers.specs.Record.{no_region}

-- the number of a way in the record
abbrev pub way_number : Way → ℕ
way_number Shut = 0
way_number ToMemory = 1
way_number FromMemory = 2

-- a region is open this way: 1 to memory, 2 from memory
abbrev pub is_open : ℕ → Registers → Bool
is_open way r = eqb r.region.way way

-- one step from a coordinate towards another
unfoldable pub toward : ℕ → ℕ → ℕ
toward a b = cond (ltb a b) (a + 1) (a - 1)

-- the region with another pixel
abbrev pub moved : Region → ℕ → ℕ → Region
moved g x y = record { way = g.way; x0 = g.x0; x1 = g.x1; y1 = g.y1; x = x; y = y }

-- the region after a transfer: a step along the row; at its end the next row from its start; after the last pixel no region is open
unfoldable pub next_pixel : Region → Region
next_pixel g =
    cond (eqb g.x g.x1) (cond (eqb g.y g.y1) no_region (moved g g.x0 (toward g.y g.y1)))
    (moved g (toward g.x g.x1) g.y)
