-- Which rows of the table of numbers may apply to a kind of word, from 3 on: for the functions that look for the lowest.
use Rattle.std.specs.Prelude.{ℕ, Bool, false, not, List, [], ◌∷◌, ltb}
use Rattle.registers.specs.declared.word.Word.TheVariants.{Aux}
use Rattle.registers.specs.Subcommand.{largest_aux}
use Rattle.refusals.specs.Refusal.{is_unmodelled}

-- AUX: 3 before the first INIT, 5 where it is not modelled, 6 where a parameter is awaited, 8 above the largest
abbrev pub aux_rows : Bool → Bool → ℕ → List Bool
aux_rows cold waits number = cold ∷ false ∷ is_unmodelled (Aux number) ∷ waits ∷ false ∷ ltb largest_aux number ∷ []

-- PARM: 3, 7 where none is awaited, 9 where its value is not allowed
abbrev pub parm_rows : Bool → Bool → Bool → List Bool
parm_rows cold waits allowed = cold ∷ false ∷ false ∷ false ∷ not waits ∷ false ∷ not allowed ∷ []

-- coordinates and IMG: 3, 6, 9, and 10 where the word fits no open figure
abbrev pub coordinate_rows : Bool → Bool → Bool → Bool → List Bool
coordinate_rows cold waits allowed fits = cold ∷ false ∷ false ∷ waits ∷ false ∷ false ∷ not allowed ∷ not fits ∷ []

-- PTRN and the read call: 3, 6, and 14 where no region is open that way
abbrev pub transfer_rows : Bool → Bool → Bool → List Bool
transfer_rows cold waits ready =
    cold ∷ false ∷ false ∷ waits ∷ false ∷ false ∷ false ∷ false
    ∷ false ∷ false ∷ false ∷ not ready ∷ []
