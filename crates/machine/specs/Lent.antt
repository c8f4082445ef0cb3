-- The two memories that a call is lent, as it finds them and as it leaves them.
use Rattle.std.specs.Prelude.{ℕ, List}
use Rattle.std.specs.Borrow.{MutBor}
use Rattle.picture.specs.Lent.{Lent}
use Rattle.machine.specs.Machine.{Memories, memories}

-- what two borrowed memories hold
abbrev pub holding : MutBor (List ℕ) → MutBor (List ℕ) → Memories
holding i z = memories i.now z.now

-- the two memories as a call finds them
abbrev pub found : Lent → Lent → Memories
found im zm = holding im.entry zm.entry

-- the two memories as a call leaves them
abbrev pub left : Lent → Lent → Memories
left im zm = holding im.exit zm.exit
