-- What the arguments of the program ask for: `show [i|z] [levels] [PLACES]`.
use lib.Chars.{codes}
use Rattle.std.specs.Prelude.{ℕ, ◌+◌, ◌≤◌, min, Bool, true, false, cond, List, ltb, eqb, Option, None, Some, Result, Ok, Err, IfOk, IfSome}
use Rattle.std.specs.Str.{bytes_eq}
use Rattle.console.specs.Digits.{digits_only, value_of}
use Rattle.show.specs.declared.Memory.{Memory}
use Rattle.show.specs.declared.Memory.TheVariants.{Intensity, Depth}
use Rattle.show.specs.declared.Wanted.{Wanted}
use Rattle.show.specs.declared.Usage.{Usage}
use Rattle.show.specs.declared.Usage.TheVariants.{TooMany, Unclear}

-- so many places, if there may be so many: at least 1, and no more than 1,048,576
unfoldable pub counted : ℕ → Result ℕ Usage
counted places = cond (eqb places 0) (Err Unclear) (cond (ltb 1048576 places) (Err TooMany) (Ok places))

-- how many places an argument asks for; one that tells no number is unclear
unfoldable pub places_of : List ℕ → Result ℕ Usage
places_of arg = cond (digits_only arg) (counted (min (value_of 0 arg) 1048577)) (Err Unclear)

-- which memory an argument names
unfoldable pub memory_of : List ℕ → Option Memory
memory_of arg = cond (bytes_eq arg (codes "i")) (Some Intensity) (cond (bytes_eq arg (codes "z")) (Some Depth) None)

-- the word `levels`
unfoldable pub is_levels : List ℕ → Bool
is_levels arg = bytes_eq arg (codes "levels")

-- a number of places that is given
abbrev pub given_of : Result ℕ Usage → Result (Option ℕ) Usage
given_of (Ok places) = Ok (Some places)
given_of (Err usage) = Err usage

-- how many places an argument asks for that may be missing
unfoldable pub places_if : Bool → List ℕ → Result (Option ℕ) Usage
places_if given arg = cond given (given_of (places_of arg)) (Ok None)

-- a memory, whether in levels, and a number of places, given or not
abbrev pub asked_for : Memory → Bool → Result (Option ℕ) Usage → Result Wanted Usage
asked_for memory levels (Ok places) = Ok (record { memory = memory; levels = levels; places = places })
asked_for memory levels (Err usage) = Err usage

-- what is asked for, where `used` of `count` arguments have been read and this is the next; there is none after it
unfoldable pub sized_of : Memory → Bool → ℕ → ℕ → List ℕ → Result Wanted Usage
sized_of memory levels used count arg = cond (ltb (used + 1) count) (Err Unclear) (asked_for memory levels (places_if (ltb used count) arg))

-- the same, where the next may be `levels`
unfoldable pub scaled_of : Memory → ℕ → ℕ → List ℕ → List ℕ → Result Wanted Usage
scaled_of memory used count first second =
    cond (is_levels first) (sized_of memory true (used + 1) count second) (sized_of memory false used count first)

-- what is asked for, where the first argument names a memory or none; of none, I
abbrev pub behind : Option Memory → ℕ → List ℕ → List ℕ → List ℕ → Result Wanted Usage
behind None count first second third = scaled_of Intensity 1 count first second
behind (Some memory) count first second third = scaled_of memory 2 count second third

-- what the arguments ask for, of which there are `count` with the program's name before them; one that is missing, or longer than 64 bytes, is empty
unfoldable pub asked_of : ℕ → List ℕ → List ℕ → List ℕ → Result Wanted Usage
asked_of count first second third = behind (memory_of first) count first second third

-- no more places than there may be
abbrev pub Few : Result Wanted Usage → Type 0
Few asked = IfOk asked (λ wanted. IfSome wanted.places (λ places. places ≤ 1048576))
