-- The memories of a board's units (document 02, [8]).
use Rattle.std.specs.Prelude.{ℕ, Bool, ◌&&◌, ◌||◌, List, [], ◌∷◌, length, ◌==◌, nat_le, slice_index_or}
use Rattle.picture.specs.Lent.{Lent}
use Rattle.machine.specs.Machine.{Memories, memories}

-- those of four units, in order; those of units that a board lacks are neither looked at nor touched
pub record Bank : Type 0 where
  pub first : Memories
  pub second : Memories
  pub third : Memories
  pub fourth : Memories

-- the memories of four units together, unit by unit
abbrev pub bank : Memories → Memories → Memories → Memories → Bank
bank first second third fourth = record { first = first; second = second; third = third; fourth = fourth }

-- by the lists that are lent, I before Z
abbrev pub lent : List ℕ → List ℕ → List ℕ → List ℕ → List ℕ → List ℕ → List ℕ → List ℕ → Bank
lent i0 z0 i1 z1 i2 z2 i3 z3 = bank (memories i0 z0) (memories i1 z1) (memories i2 z2) (memories i3 z3)

-- as a call finds them
abbrev pub found_in : Lent → Lent → Lent → Lent → Lent → Lent → Lent → Lent → Bank
found_in i0 z0 i1 z1 i2 z2 i3 z3 =
    lent i0.entry.now z0.entry.now i1.entry.now z1.entry.now i2.entry.now z2.entry.now i3.entry.now z3.entry.now

-- as a call leaves them
abbrev pub left_in : Lent → Lent → Lent → Lent → Lent → Lent → Lent → Lent → Bank
left_in i0 z0 i1 z1 i2 z2 i3 z3 =
    lent i0.exit.now z0.exit.now i1.exit.now z1.exit.now i2.exit.now z2.exit.now i3.exit.now z3.exit.now

-- those of unit u, counted from 0
abbrev pub memories_of : Bank → ℕ → Memories
memories_of m u = slice_index_or (m.first ∷ m.second ∷ m.third ∷ []) u m.fourth

-- unit u, if a board of so many units has it, has two memories of length n
abbrev pub unit_even : ℕ → ℕ → ℕ → ℕ → ℕ → Bool
unit_even units u n i z = nat_le units u || (i == n && z == n)

-- no two memories of the board differ in length, by the lengths of all that are lent
unfoldable pub even_lengths : ℕ → ℕ → ℕ → ℕ → ℕ → ℕ → ℕ → ℕ → ℕ → Bool
even_lengths units i0 z0 i1 z1 i2 z2 i3 z3 = unit_even units 0 i0 i0 z0 && unit_even units 1 i0 i1 z1 && unit_even units 2 i0 i2 z2 && unit_even units 3 i0 i3 z3

-- the same of the memories themselves, by the lengths that they have
abbrev pub is_even : ℕ → Bank → Bool
is_even units m =
    even_lengths units (length m.first.i) (length m.first.z) (length m.second.i) (length m.second.z)
    (length m.third.i) (length m.third.z) (length m.fourth.i) (length m.fourth.z)
