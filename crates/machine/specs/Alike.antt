-- Two runs that tell the same and leave what belongs together, and pictures that are the same pixel by pixel though they lie otherwise.
use Rattle.std.specs.Prelude.{◌≡◌, true, cond, ◌&&◌, List, [], ◌∷◌, ℕ, eqb}
use Rattle.picture.specs.declared.Frame.{Frame}
use Rattle.picture.specs.Place.{place_of, in_memory}
use Rattle.picture.specs.Picture.{Picture}
use Rattle.picture.specs.Cell.{cell_at}
use Rattle.picture.specs.Store.{Store}
use Rattle.machine.specs.Run.{Outcome, Ran}

-- ---- runs

-- two words get the same number and pass as many pixels, and what they leave belongs together
pub record AlikeOutcome {R M R' M' : Type 0} (Rel : R → M → R' → M' → Type 0) (o : Outcome R M) (p : Outcome R' M') : Type 0 where
  pub refusal : o.refusal ≡ p.refusal
  pub passed : o.passed ≡ p.passed
  pub state : Rel o.registers o.memories p.registers p.memories

-- two runs tell the same, and what they leave belongs together
pub record AlikeRun {R M R' M' : Type 0} (Rel : R → M → R' → M' → Type 0) (a : Ran R M) (b : Ran R' M') : Type 0 where
  pub refusal : a.refusal ≡ b.refusal
  pub index : a.index ≡ b.index
  pub sum : a.sum ≡ b.sum
  pub state : Rel a.registers a.memories b.registers b.memories

-- ---- pictures

-- the stores of a pixel
unfoldable pub stores_on : ℕ → ℕ → List Store → List Store
stores_on x y [] = []
stores_on x y (s ∷ ss) = cond (eqb s.x x && eqb s.y y) (s ∷ stores_on x y ss) (stores_on x y ss)

-- each pixel inside the first has the two numbers that it has in the second
abbrev pub SamePixels : Frame → Frame → ℕ → Picture → Picture → Type 0
SamePixels frame frame' rows p p' = (x y : ℕ) → in_memory frame rows x y ≡ true → cell_at p (place_of frame x y) ≡ cell_at p' (place_of frame' x y)
