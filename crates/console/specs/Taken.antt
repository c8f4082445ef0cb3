-- What reading standard input tells. Which bytes come no contract can say.
use Rattle.std.specs.Prelude.{ℕ, ◌≤◌, Result, IfOk}
use Rattle.std.specs.declared.io.Error.{Error}

-- no more bytes came than there was room for
abbrev pub Within : ℕ → Result ℕ Error → Type 0
Within room taken = IfOk taken (λ n. n ≤ room)
