-- The subcommands of AUX and how many parameters each takes (document 01, "Registers", the table of AUX; document 02, [1] and [7]); and IMG,
-- whose parameters are awaited in the same way (document 02, [1]).
use Rattle.std.specs.Prelude.{ℕ, List, [], ◌∷◌, get_or}
use Rattle.registers.specs.declared.subcommand.Subcommand.{Subcommand}
use Rattle.registers.specs.declared.subcommand.Subcommand.TheVariants.{Nothing, Pmode, Lmode, Zcontrol, Hcontrol, Tpattern, Window, Section, Color, Lpattern, Mask, Lstatus, Imode, Load, Save}

-- the largest AUX number
abbrev pub largest_aux : ℕ
largest_aux = 12

-- the AUX number that is not modelled
abbrev pub unmodelled_aux : ℕ
unmodelled_aux = 11

-- AUX 0 to 12, in order; 11 is not modelled; after 13, which stands for none, IMG to memory and from memory
abbrev pub subcommands : List Subcommand
subcommands =
    Pmode ∷ Lmode ∷ Imode ∷ Zcontrol ∷ Hcontrol ∷ Tpattern ∷ Window ∷ Section ∷ Color ∷ Lpattern ∷ Mask ∷ Nothing ∷ Lstatus
    ∷ Nothing ∷ Load ∷ Save ∷ []

-- the subcommand of such a number; nothing for all others
unfoldable pub subcommand_of : ℕ → Subcommand
subcommand_of n = get_or subcommands n Nothing

-- how many parameters it takes
abbrev pub wants : Subcommand → ℕ
wants Nothing = 0
wants Pmode = 1
wants Lmode = 1
wants Zcontrol = 1
wants Hcontrol = 1
wants Tpattern = 1
wants Window = 5
wants Section = 1
wants Color = 2
wants Lpattern = 2
wants Mask = 1
wants Lstatus = 1
wants Imode = 1
wants Load = 4
wants Save = 4
