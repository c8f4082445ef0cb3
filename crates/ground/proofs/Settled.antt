-- What a promise that is an equation settles: one answer. Assumes nothing.
use mathlib.Core.Path.{◌≡◌, sym, ◌∙◌}

-- any two answers that are equal to one value are equal
pub one_answer : {A : Type 0} {value r r' : A} → r ≡ value → r' ≡ value → r ≡ r'
one_answer p q = p ∙ sym q
