-- What looking for a file tells. Which bytes come no contract can say.
use Rattle.std.specs.Prelude.{ℕ, ◌≤◌, Result, Ok, Err}
use Rattle.overdraw.specs.declared.file.Lost.{Lost}

-- no more bytes came than there was room for
abbrev pub Within : ℕ → Result ℕ Lost → Type 0
Within room (Ok n) = n ≤ room
Within room (Err lost) = Unit {0}
