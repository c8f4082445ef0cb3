-- Document 01, "Examples": those marked * as rows of a single table, under one claim.
use Rattle.std.specs.Prelude.{ℕ, zero, suc, ◌+◌, ◌*◌, ◌%◌, ◌^◌, ◌≤◌, ◌≡◌, Bool, true, false, cond, ◌&&◌, ◌||◌, List, [], ◌∷◌, ◌++◌, map, ltb, eqb, length, replicate}
use Rattle.stream.specs.Calls.{checked, word_count}
use Rattle.picture.specs.declared.Vertex.{Vertex}
use Rattle.picture.specs.declared.Pen.{Pen}
use Rattle.picture.specs.Limits.{largest_border}
use Rattle.picture.specs.Place.{plain_frame}
use Rattle.picture.specs.Offer.{Offer, shows}
use Rattle.line.specs.declared.Mode.TheVariants.{Two}
use Rattle.line.specs.declared.Style.{Style}
use Rattle.line.specs.Segment.{larger, x_at, y_at, number_at, segment_offers}
use Rattle.triangle.specs.Edge.{edge_at, covers}
use Rattle.triangle.specs.Offers.{corners_of, triangle_offers}
use Rattle.registers.specs.declared.Registers.{Registers}
use Rattle.registers.specs.Word.{decode}
use Rattle.registers.specs.Record.{reset_of}
use Rattle.refusals.specs.Bounds.{in_bounds}
use Rattle.refusals.specs.Refusal.{refusal_of, next}

-- ---- pixels and points

-- a pixel has a column and a row
pub record Pixel : Type 0 where
  pub x : ℕ
  pub y : ℕ

-- the pixel in column x of row y
abbrev pub at : ℕ → ℕ → Pixel
at x y = record { x = x; y = y }

-- a vertex at a pixel; its numbers play no part in where a figure lies
abbrev pub corner : Pixel → Vertex
corner p = record { x = p.x; y = p.y; i = 0; z = 0 }

-- f 0 to f n, both with them
unfoldable pub through : {A : Type 0} → ℕ → (ℕ → A) → List A
through zero f = f 0 ∷ []
through (suc n) f = through n f ++ (f (suc n) ∷ [])

-- the pixels of a line, step by step
unfoldable pub walk : Pixel → Pixel → List Pixel
walk p q = through (larger (corner p) (corner q)) (λ k. at (x_at (corner p) (corner q) k) (y_at (corner p) (corner q) k))

-- the pixel is one of these
unfoldable pub among : ℕ → ℕ → List Pixel → Bool
among x y [] = false
among x y (p ∷ ps) = (eqb x p.x && eqb y p.y) || among x y ps

-- the triangle of three corners, in either turning sense, covers a pixel
unfoldable pub covered : Vertex → Vertex → Vertex → ℕ → ℕ → Bool
covered a b c x y =
    cond (ltb (edge_at a b c.x c.y).minus (edge_at a b c.x c.y).plus) (covers (corners_of a b c c) x y)
    (cond (ltb (edge_at a b c.x c.y).plus (edge_at a b c.x c.y).minus) (covers (corners_of a c b c) x y) false)

-- ---- what is offered on a small picture

-- a pen that hides nothing of a picture of four columns
abbrev pub bare : Pen
bare =
    record {
      frame = plain_frame 4;
      left = 0;
      right = largest_border;
      bottom = 0;
      top = largest_border;
      transparency = 65535;
      planes = 65535;
      depth = false;
      ienable = true;
      zenable = true;
    }

-- the style of a mode 2 line, in which all else is 0 and nothing is left out
abbrev pub shaded : Style
shaded = record { mode = Two; pattern = 0; foreground = 0; background = 0; steps = 0; joined = false }

-- a mode 2 line, and a Gouraud triangle, on a picture of four rows
abbrev pub line_there : Vertex → Vertex → List Offer
line_there a b = segment_offers bare 4 shaded a b

-- a Gouraud triangle, on a picture of four rows
abbrev pub triangle_there : Vertex → Vertex → Vertex → List Offer
triangle_there a b c = triangle_offers bare 4 false a b c

-- where some offers are, in their order
abbrev pub pixels_of : List Offer → List Pixel
pixels_of os = map (λ (o : Offer). at o.x o.y) os

-- a point of the lowest row with one number for both I and Z
abbrev pub numbered : ℕ → ℕ → Vertex
numbered x v = record { x = x; y = 0; i = v; z = v }

-- ---- INIT

-- INIT's data for a line code: bits 15 and 14 are any, chips and unit 0
abbrev pub init_data : ℕ → ℕ → ℕ → ℕ
init_data top code page = top * 16384 + code * 256 + page

-- so it is of every INIT for a line code, with a page code that is allowed, over memories of one length and from every record within its
-- bounds, as reset's is
pub record EveryInit (code : ℕ) (So : (n : ℕ) (r : Registers) (d : ℕ) → Type 0) : Type 0 where
  pub reset : in_bounds reset_of ≡ true
  pub so : (n : ℕ) (r : Registers) (top page : ℕ) → in_bounds r ≡ true → page ≤ 7 → So n r (init_data top code page)

-- ---- the rows, by what they speak of

-- a row of the table claims one thing, of one of these eight sorts
pub data Row : Type 0 where
  -- a line visits pixels
  line : Pixel → Pixel → List Pixel → Row
  -- mode 2 in so many steps, from a number to a number
  numbers : ℕ → ℕ → ℕ → List ℕ → Row
  -- a triangle covers just these pixels
  triangle : Pixel → Pixel → Pixel → List Pixel → Row
  -- a transparency pattern keeps just the pixels of one residue pair
  transparency : ℕ → ℕ → ℕ → Row
  -- a packed length holds so many words
  holds : ℕ → ℕ → Row
  -- a packed length gives a refusal number
  gives : ℕ → ℕ → Row
  -- a line code gives a refusal number
  code_gives : ℕ → ℕ → Row
  -- a line code is a line length
  code_is : ℕ → ℕ → Row

-- what a row says
unfoldable pub Says : Row → Type 0
Says (line p q pixels) = (walk p q ≡ pixels) × (pixels_of (line_there (corner p) (corner q)) ≡ pixels)
Says (numbers n first second told) =
    (through n (λ k. number_at n k first second) ≡ told)
    × (map (λ (o : Offer). o.i) (line_there (numbered 0 first) (numbered n second)) ≡ told)
    × (map (λ (o : Offer). o.z) (line_there (numbered 0 first) (numbered n second)) ≡ told)
Says (triangle p q r pixels) =
    ((x y : ℕ) → covered (corner p) (corner q) (corner r) x y ≡ among x y pixels)
    × (pixels_of (triangle_there (corner p) (corner q) (corner r)) ≡ pixels)
Says (transparency pattern mx my) = (pen : Pen) → pen.transparency ≡ pattern → (x y : ℕ) → shows pen x y ≡ eqb (x % 4) mx && eqb (y % 4) my
-- each good stream of that length holds so many words, and there is one
Says (holds n words) =
    (checked (replicate n 0) 0 ≡ 0) × ((bytes : List ℕ) → length bytes ≡ n → checked bytes 0 ≡ 0 → word_count bytes ≡ words)
-- each stream of that length is refused with the number, whatever else is checked
Says (gives n number) = (bytes : List ℕ) → length bytes ≡ n → ((next : ℕ) → checked bytes next ≡ number) × (word_count bytes ≡ 2 ^ 63 + number)
Says (code_gives code number) = EveryInit code (λ n r d. refusal_of n n r (decode 15 d) ≡ number)
-- INIT is accepted, and sets the length
Says (code_is code columns) = EveryInit code (λ n r d. (refusal_of n n r (decode 15 d) ≡ 0) × ((next n n r (decode 15 d)).frame.line ≡ columns))

-- ---- the table

-- the starred examples of the document
unfoldable pub table : List Row
table =
    line (at 0 0) (at 2 1) (at 0 0 ∷ at 1 1 ∷ at 2 1 ∷ [])
    ∷ line (at 2 1) (at 0 0) (at 2 1 ∷ at 1 0 ∷ at 0 0 ∷ [])
    ∷ numbers 3 0 10 (0 ∷ 3 ∷ 7 ∷ 10 ∷ [])
    ∷ numbers 2 5 0 (5 ∷ 3 ∷ 0 ∷ [])
    ∷ triangle (at 0 0) (at 2 0) (at 0 2) (at 0 0 ∷ at 1 0 ∷ at 0 1 ∷ [])
    -- the other turning sense is the same
    ∷ triangle (at 0 0) (at 0 2) (at 2 0) (at 0 0 ∷ at 1 0 ∷ at 0 1 ∷ [])
    ∷ triangle (at 2 0) (at 2 2) (at 0 2) (at 1 1 ∷ [])
    ∷ triangle (at 0 0) (at 1 1) (at 2 2) []
    -- 8000 hex keeps x mod 4 = 3 with y mod 4 = 3, of all sixteen pairs that one
    ∷ transparency 32768 3 3
    -- packed lengths 0, 3, 5 hold 0, 1, 2 words; 4 gives 11
    ∷ holds 0 0
    ∷ holds 3 1
    ∷ holds 5 2
    ∷ gives 4 11
    -- line code 16 gives 9, code 47 is 8768
    ∷ code_gives 16 9
    ∷ code_is 47 8768
    ∷ []

-- ---- the claim

infixr 3 ◌also◌
-- every row of a table says what is so
pub data All : List Row → Type 0 where
  done : All []
  ◌also◌ : {row : Row} {rows : List Row} → Says row → All rows → All (row ∷ rows)

-- all starred examples hold
abbrev pub Claim : Type 0
Claim = All table
