-- The numbers by which a call says why it refused (document 01, "Numbers that come back", and 14 by document 02's [1]).
use Rattle.std.specs.Prelude.{ℕ, ◌+◌, ◌^◌, Result, Ok, Err}
use Rattle.ground.specs.declared.Refusal.{Refusal}
use Rattle.ground.specs.declared.Refusal.TheVariants.{BadWord, Unsound, NotStarted, ReservedCommand, NotModelled, Awaited, NoneAwaited, NoSubcommand, NotAllowed, NoFit, BadLength, BadTail, NoRoom, NoTransfer}

-- the number of each
abbrev pub number : Refusal → ℕ
number BadWord = 1
number Unsound = 2
number NotStarted = 3
number ReservedCommand = 4
number NotModelled = 5
number Awaited = 6
number NoneAwaited = 7
number NoSubcommand = 8
number NotAllowed = 9
number NoFit = 10
number BadLength = 11
number BadTail = 12
number NoRoom = 13
number NoTransfer = 14

-- the number that an answer tells: 0 where nothing was refused
abbrev pub told : {A : Type 0} → Result A Refusal → ℕ
told (Ok _) = 0
told (Err refusal) = number refusal

-- an answer as one number for C: its value, or 2 ^ 63 plus the number of its refusal
abbrev pub encoded : Result ℕ Refusal → ℕ
encoded (Ok value) = value
encoded (Err refusal) = 2 ^ 63 + number refusal
