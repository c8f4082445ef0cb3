-- How far the card reaches (document 02, [12]): the largest numbers that it takes and uses, each said here alone.
use Rattle.std.specs.Prelude.{ℕ}

-- the largest coordinate, of a vertex and of a corner of a picture's region
abbrev pub largest_coordinate : ℕ
largest_coordinate = 16383

-- the largest border of a window
abbrev pub largest_border : ℕ
largest_border = 16384

-- the rows in use, at most
abbrev pub most_rows : ℕ
most_rows = 16384
