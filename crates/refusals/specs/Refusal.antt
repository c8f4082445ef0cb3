-- The numbers 1 to 10 and 14 that refuse a word, each given exactly when document 01's table ("Numbers that come back"), as requests [1]
-- and [7] change it, says; those that refuse the read call; and the record after a word.
use Rattle.std.specs.Prelude.{ℕ, suc, Bool, true, false, cond, not, ◌&&◌, ◌||◌, List, [], ◌∷◌, ltb, eqb}
use Rattle.registers.specs.declared.word.Word.{Word}
use Rattle.registers.specs.declared.word.Word.TheVariants.{Init, Aux, Parm, At, Img, Ptrn, Reserved, Unmodelled, Unknown}
use Rattle.registers.specs.declared.Registers.{Registers}
use Rattle.registers.specs.Subcommand.{largest_aux, unmodelled_aux, wants}
use Rattle.registers.specs.Next.{awaited, record_after}
use Rattle.refusals.specs.Allowed.{allowed, fits}
use Rattle.refusals.specs.Bounds.{in_bounds}
use Rattle.registers.specs.Region.{is_open}

-- ---- what is asked of a word and of the record

-- the answers, each of which is mostly no
pub record Asked : Type 0 where
  -- a command above 15
  pub unknown : Bool
  -- command 7 or C hex
  pub reserved : Bool
  -- command A hex; AUX 11
  pub unmodelled : Bool
  -- AUX above 12
  pub above : Bool
  pub init : Bool
  pub parm : Bool
  pub ptrn : Bool

-- the answers together
abbrev pub asked : Bool → Bool → Bool → Bool → Bool → Bool → Bool → Asked
asked unknown reserved unmodelled above init parm ptrn =
    record { unknown = unknown; reserved = reserved; unmodelled = unmodelled; above = above; init = init; parm = parm; ptrn = ptrn }

-- word by word: unknown, reserved, not modelled, AUX above 12, INIT, PARM, PTRN
abbrev pub asked_of : Word → Asked
asked_of (Init d) = asked false false false false true false false
asked_of (Aux n) = asked false false (eqb n unmodelled_aux) (ltb largest_aux n) false false false
asked_of (Parm v) = asked false false false false false true false
asked_of (At c n) = asked false false false false false false false
asked_of (Img d) = asked false false false false false false false
asked_of (Ptrn v) = asked false false false false false false true
asked_of Reserved = asked false true false false false false false
asked_of Unmodelled = asked false false true false false false false
asked_of Unknown = asked true false false false false false false

-- the word's command is above 15
abbrev pub is_unknown : Word → Bool
is_unknown w = (asked_of w).unknown

-- the word is of a reserved command, 7 or C hex
abbrev pub is_reserved : Word → Bool
is_reserved w = (asked_of w).reserved

-- the word is not modelled: command A hex, or AUX 11
abbrev pub is_unmodelled : Word → Bool
is_unmodelled w = (asked_of w).unmodelled

-- the word is AUX with a number above 12
abbrev pub is_above : Word → Bool
is_above w = (asked_of w).above

-- the word is INIT
abbrev pub is_init : Word → Bool
is_init w = (asked_of w).init

-- the word is PARM
abbrev pub is_parm : Word → Bool
is_parm w = (asked_of w).parm

-- the word is PTRN
abbrev pub is_ptrn : Word → Bool
is_ptrn w = (asked_of w).ptrn

-- before the first accepted INIT
abbrev pub is_cold : Registers → Bool
is_cold r = eqb r.started 0

-- a parameter is awaited
abbrev pub awaits : Registers → Bool
awaits r = ltb 0 (wants (awaited r))

-- ---- the table

-- the numbers from 1 on, each with when it applies; `unfit` says that the record or the memories are, `barred` that the word's value is
abbrev pub table_of : Bool → Bool → Registers → Word → List Bool
table_of unfit barred r w =
    is_unknown w  -- 1: command above 15
    ∷ unfit  -- 2: the memories differ in length, or the record breaks a bound
    ∷ (not (is_init w) && is_cold r)  -- 3: any word but INIT before the first accepted INIT
    ∷ is_reserved w  -- 4: command 7 or C hex
    ∷ is_unmodelled w  -- 5: command A hex; AUX 11
    ∷ (not (is_parm w || is_init w) && awaits r)  -- 6: a parameter is awaited and the word is neither PARM nor INIT
    ∷ (is_parm w && not (awaits r))  -- 7: PARM with none awaited
    ∷ is_above w  -- 8: AUX above 12
    ∷ barred  -- 9: a value not allowed
    ∷ not (fits r w)  -- 10: X or PX that fits no open figure
    ∷ false ∷ false ∷ false  -- 11, 12 and 13 refuse no word
    ∷ (is_ptrn w && not (is_open 1 r))  -- 14: PTRN with no region open to memory
    ∷ []

-- by what is allowed of a word's value
abbrev pub table : Bool → Registers → Word → List Bool
table unfit r w = table_of unfit (not (allowed r w)) r w

-- the lowest number that applies, counted from n on; 0 where none does
abbrev pub lowest : ℕ → List Bool → ℕ
lowest n [] = 0
lowest n (b ∷ bs) = cond b n (lowest (suc n) bs)

-- memories of two lengths, or the record, are not such as a word may meet
abbrev pub is_unfit : ℕ → ℕ → Registers → Bool
is_unfit ni nz r = not (eqb ni nz) || not (in_bounds r)

-- the number that a word gets over memories of two lengths: the lowest that applies, 0 for none
unfoldable pub refusal_of : ℕ → ℕ → Registers → Word → ℕ
refusal_of ni nz r w = lowest 1 (table (is_unfit ni nz r) r w)

-- the record after a word: unchanged if it is refused
unfoldable pub next : ℕ → ℕ → Registers → Word → Registers
next ni nz r w = cond (eqb (refusal_of ni nz r w) 0) (record_after r w) r

-- ---- the read call

-- the same rows from 2 on, as they concern the read call
abbrev pub read_table : Bool → Registers → List Bool
read_table unfit r =
    unfit  -- 2: the memories differ in length, or the record breaks a bound
    ∷ is_cold r  -- 3: before the first accepted INIT
    ∷ false ∷ false
    ∷ awaits r  -- 6: a parameter is awaited
    ∷ false ∷ false ∷ false ∷ false ∷ false ∷ false ∷ false
    ∷ not (is_open 2 r)  -- 14: no region is open from memory
    ∷ []

-- the number that the read call gets over memories of two lengths: the lowest that applies, 0 for none
unfoldable pub read_refusal_of : ℕ → ℕ → Registers → ℕ
read_refusal_of ni nz r = lowest 2 (read_table (is_unfit ni nz r) r)
