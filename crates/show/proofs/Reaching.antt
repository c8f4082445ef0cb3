-- How high figures reach, word by word. Assumes nothing.
use mathlib.Core.Path.{◌≡◌, ap, ap₂, ◌∙◌}
use mathlib.Core.Bool.{Bool}
use mathlib.Core.List.{List}
use Prim.Native.Nat.{ℕ, zero, suc, ◌+◌, ◌<◌}
use native.Mathlib.Numerals.{add-one}
use native.Mathlib.Omega.{arith}
use borrow.Author.Tests.{ltb-true}
use lib.Dec.{ltb}
use Rattle.std.specs.Prelude.{Option, None, IfSome, true, false}
use Rattle.ground.proofs.Truth.{either}
use Rattle.picture.specs.Place.{rows_of}
use Rattle.stream.specs.Format.{word_at}
use Rattle.registers.specs.declared.Registers.{Registers}
use Rattle.registers.specs.declared.word.Word.{Word}
use Rattle.registers.specs.declared.shape.Completed.{Completed}
use Rattle.registers.specs.Word.{word_of}
use Rattle.registers.specs.Record.{reset_of}
use Rattle.registers.specs.Next.{record_after, completed_by}
use Rattle.show.specs.declared.Above.{Above}
use Rattle.show.specs.declared.Came.{Came}
use Rattle.show.specs.Reach.{height_of, reach_of, is_missed, risen, raised, raised_by, onward, reached}

abbrev standing : Registers → Option Above → Came
standing r a = record { registers = r; above = a }

-- one word more, from its parts
pub onward_told : (places : ℕ) (s : Came) (w : Word) {r : Registers} {a : Option Above} {f : Completed} {missed : Bool} {height reach rows : ℕ} → r ≡ record_after s.registers w
    → a ≡ raised s.above missed height rows → height ≡ height_of f → missed ≡ is_missed rows reach s.registers.window.top → reach ≡ reach_of f
    → f ≡ completed_by s.registers w → rows ≡ rows_of s.registers.frame places places
    → standing r a ≡ onward places s w
unfolding onward
onward_told places s w {height = height} {rows = rows} e g h m q f k =
    let told = g ∙ ap₂ (λ (b : Bool) (n : ℕ). raised s.above b n rows) (m ∙ ap (λ (n : ℕ). is_missed rows n s.registers.window.top) q) h in
    ap₂ standing e (told ∙ ap₂ (raised_by s) f k)

module _ (places : ℕ) (bytes : List ℕ) where
  -- no word
  pub reached_none : {r : Registers} → r ≡ reset_of → standing r None ≡ reached places bytes 0
  unfolding reached
  reached_none e = ap (λ (r : Registers). standing r None) e

  -- and one more
  pub reached_more : (k : ℕ) {s t : Came} → s ≡ reached places bytes k → t ≡ onward places s (word_of (word_at bytes k)) → t ≡ reached places bytes (k + 1)
  unfolding reached
  reached_more k e p = rw (add-one k) (p ∙ ap (λ (s : Came). onward places s (word_of (word_at bytes k))) e)

-- ---- the highest figure has rows

abbrev High : Option Above → Type 0
High above = IfSome above (λ (a : Above). 0 < a.height)

raised_high : (a : Option Above) (missed : Bool) (height rows : ℕ) → High a → High (raised a missed height rows)
unfolding raised
raised_high a false height rows h = h
raised_high a true height rows h = either High (ltb (risen a) height) (λ e. omega (arith, ltb-true (risen a) height e)) (λ e. h)

-- what a stream's first words reach above has a height above 0
pub reached_high : (places : ℕ) (bytes : List ℕ) (n : ℕ) → High (reached places bytes n).above
unfolding reached onward
reached_high places bytes zero = tt
reached_high places bytes (suc n) =
    let s = reached places bytes n in
    let f = completed_by s.registers (word_of (word_at bytes n)) in
    let rows = rows_of s.registers.frame places places in
    raised_high s.above (is_missed rows (reach_of f) s.registers.window.top) (height_of f) rows (reached_high places bytes n)
