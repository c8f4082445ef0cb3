-- The numbers of refusals: none is 0, and each belongs to one refusal; so a told 0 is an Ok. Assumes nothing.
use Rattle.std.specs.Prelude.{ℕ, ◌≡◌, ◌≢◌, ◌<◌, ◌≤◌, [], ◌∷◌, Result, Ok, Err}
use mathlib.Core.Path.{refl, sym, ap, ◌∙◌}
use native.Mathlib.Omega.{arith}
use lib.ListN.{get_or}
use Rattle.ground.specs.declared.Refusal.{Refusal}
use Rattle.ground.specs.declared.Refusal.TheVariants.{BadWord, Unsound, NotStarted, ReservedCommand, NotModelled, Awaited, NoneAwaited, NoSubcommand, NotAllowed, NoFit, BadLength, BadTail, NoRoom, NoTransfer}
use Rattle.ground.specs.Refusal.{number, told}

-- the numbers go from 1 to 14
numbered : (r : Refusal) → (0 < number r) × (number r ≤ 14)
numbered BadWord = (omega arith, omega arith)
numbered Unsound = (omega arith, omega arith)
numbered NotStarted = (omega arith, omega arith)
numbered ReservedCommand = (omega arith, omega arith)
numbered NotModelled = (omega arith, omega arith)
numbered Awaited = (omega arith, omega arith)
numbered NoneAwaited = (omega arith, omega arith)
numbered NoSubcommand = (omega arith, omega arith)
numbered NotAllowed = (omega arith, omega arith)
numbered NoFit = (omega arith, omega arith)
numbered BadLength = (omega arith, omega arith)
numbered BadTail = (omega arith, omega arith)
numbered NoRoom = (omega arith, omega arith)
numbered NoTransfer = (omega arith, omega arith)

-- no refusal has number 0
pub number_positive : (r : Refusal) → 0 < number r
number_positive r = (numbered r).0

-- the last has number 14
pub number_small : (r : Refusal) → number r ≤ 14
number_small r = (numbered r).1

-- the refusal of a number
pub refusal_of : ℕ → Refusal
refusal_of n =
    get_or
    (NoTransfer ∷ BadWord ∷ Unsound ∷ NotStarted ∷ ReservedCommand ∷ NotModelled ∷ Awaited ∷ NoneAwaited ∷ NoSubcommand ∷ NotAllowed ∷ NoFit ∷ BadLength ∷ BadTail ∷ NoRoom ∷ [])
    n NoTransfer

-- is known by its number
pub refusal_back : (r : Refusal) → refusal_of (number r) ≡ r
unfolding refusal_of
refusal_back BadWord = refl
refusal_back Unsound = refl
refusal_back NotStarted = refl
refusal_back ReservedCommand = refl
refusal_back NotModelled = refl
refusal_back Awaited = refl
refusal_back NoneAwaited = refl
refusal_back NoSubcommand = refl
refusal_back NotAllowed = refl
refusal_back NoFit = refl
refusal_back BadLength = refl
refusal_back BadTail = refl
refusal_back NoRoom = refl
refusal_back NoTransfer = refl

-- no two refusals have one number
pub number_injective : {a b : Refusal} → number a ≡ number b → a ≡ b
number_injective {a = a} {b = b} e = sym (refusal_back a) ∙ ap refusal_of e ∙ refusal_back b

-- where 0 is told, nothing was refused
pub ok_of_told : {A : Type 0} (r : Result A Refusal) → told r ≡ 0 → (v : A) × (r ≡ Ok v)
ok_of_told (Ok v) e = (v, refl)
ok_of_told (Err refusal) e = absurd (omega (arith, number_positive refusal, e))

-- what was refused tells no 0
pub told_err : {A : Type 0} {r : Result A Refusal} {refusal : Refusal} → r ≡ Err refusal → told r ≢ 0
told_err {refusal = refusal} e z = omega (arith, number_positive refusal, ap told (sym e), z)

-- two refusals that tell one number are one
pub told_same : {A B : Type 0} {r : Result A Refusal} {r' : Result B Refusal} {a b : Refusal} → r ≡ Err a → r' ≡ Err b → told r ≡ told r' → a ≡ b
told_same p q e = number_injective (ap told (sym p) ∙ e ∙ ap told q)
