-- Where pixels lie: a pixel inside the memory has a place of its own, below the lent lengths. Assumes nothing.
use Rattle.std.proofs.Common.{not, ne_eqb, ◌≡◌, ℕ, ◌+◌, ◌-◌, ◌*◌, ◌/◌, ◌%◌, ◌<◌, ◌≤◌, min, Bool, true, false, cond, ◌&&◌, ◌||◌, eqb, ltb, leb, sym, refl, ap, ◌∙◌, zero-le, add_assoc, mul-le-mul_right, mul-le-mul, zero-add, arith, ltb-false, ltb-true, lt-ltb, eq-eqb, eqb-true, le-leb, leb-true}
use native.Mathlib.Nat.{min-le_right}
use borrow.Author.Tests.{eqb-false}
use Rattle.ground.proofs.Truth.{both, neither, same_test}
use Rattle.picture.specs.declared.Frame.{Frame}
use Rattle.picture.specs.Limits.{most_rows}
use Rattle.picture.specs.Place.{plain, tiled, share, lies_plain, lies_tiled, ways_of, layout_of, spot_of, place_of, is_whole, width_of, rows_in, rows_of, mine, in_memory}
use Rattle.picture.specs.Loops.{band_end, along_tiles}
use Rattle.picture.proofs.Layouts.{rows_end, rows_hold, band_low, spot_low, spot_apart}

-- a pixel inside lies in a column of the line that the memory has, and in a row in use
pub inside_parts : (frame : Frame) (rows x y : ℕ) → in_memory frame rows x y ≡ true → (x < frame.line) × (y < rows) × (mine (layout_of frame) x ≡ true)
unfolding in_memory
inside_parts frame rows x y h =
    let j = both (ltb x frame.line && ltb y rows) (mine (layout_of frame) x) h in
    let k = both (ltb x frame.line) (ltb y rows) j.0 in
    (ltb-true _ _ k.0, ltb-true _ _ k.1, j.1)

-- the layout, by its test
module _ (frame : Frame) where
  -- a frame whose number is one for rows has its rows one after the other
  pub lies_plain_lem : lies_plain frame ≡ true → layout_of frame ≡ plain
  unfolding layout_of
  lies_plain_lem e = rw e

  -- a frame whose number is the one for tiles lies in tiles
  pub lies_tiled_lem : lies_tiled frame ≡ true → layout_of frame ≡ tiled
  unfolding layout_of
  lies_tiled_lem e = let one = eqb-true frame.layout 1 e in rw one

  -- a frame of any other number is a unit's: the unit is what the number is above the number of units
  pub lies_shared : lies_plain frame ≡ false → lies_tiled frame ≡ false → layout_of frame ≡ share (ways_of frame) (frame.layout - ways_of frame)
  unfolding layout_of
  lies_shared e f = rw (e, f)

  -- but for tiles a band is a row
  pub end_row : (y : ℕ) → lies_tiled frame ≡ false → band_end (layout_of frame) y ≡ y + 1
  unfolding layout_of band_end
  end_row y f = rw f (go (lies_plain frame))
    where
      go : (b : Bool) → band_end (cond b plain (share (ways_of frame) (frame.layout - ways_of frame))) y ≡ y + 1
      go true = refl
      go false = refl

module _ (frame : Frame) (ni nz : ℕ) where
  -- no row is in use where the line length does not suit the layout
  pub rows_none : is_whole (layout_of frame) frame.line ≡ false → rows_of frame ni nz ≡ 0
  unfolding rows_of
  rows_none e = rw e

  -- where the line length suits the layout, the rows in use are those that the shorter memory holds, at most `most_rows`
  pub rows_some : is_whole (layout_of frame) frame.line ≡ true → rows_of frame ni nz ≡ min (rows_in (layout_of frame) frame.line (min ni nz)) most_rows
  unfolding rows_of
  rows_some e = rw e

  -- no more than `most_rows` rows are in use
  pub rows_low : rows_of frame ni nz ≤ most_rows
  unfolding rows_of
  rows_low = go (is_whole (layout_of frame) frame.line)
    where
      go : (b : Bool) → cond b (min (rows_in (layout_of frame) frame.line (min ni nz)) most_rows) 0 ≤ most_rows
      go true = min-le_right _ _
      go false = zero-le

  -- where a row is in use the line length suits the layout
  pub rows_whole : (y : ℕ) → y < rows_of frame ni nz → is_whole (layout_of frame) frame.line ≡ true
  rows_whole y h = go (is_whole (layout_of frame) frame.line) refl
    where
      go : (b : Bool) → is_whole (layout_of frame) frame.line ≡ b → b ≡ true
      go true e = refl
      go false e = absurd (omega (arith, h, rows_none e))

  -- a row is in use where it is one of the first so many and its band ends inside both memories
  module _ (y : ℕ) (whole : is_whole (layout_of frame) frame.line ≡ true) where
    -- a row in use is one of the first `most_rows`, and its band ends inside both memories
    pub row_ends : y < rows_of frame ni nz → (y < most_rows) × (band_end (layout_of frame) y * width_of (layout_of frame) frame.line ≤ ni) × (band_end (layout_of frame) y * width_of (layout_of frame) frame.line ≤ nz)
    row_ends h =
        let k : y < min (rows_in (layout_of frame) frame.line (min ni nz)) most_rows = rw (rows_some whole) at h in
        let m = rows_end (layout_of frame) frame.line (min ni nz) y whole (omega (arith, k)) in
        (omega (arith, k), omega (arith, m), omega (arith, m))

    -- one of the first `most_rows` rows whose band ends inside both memories is in use
    pub row_in : y < most_rows → band_end (layout_of frame) y * width_of (layout_of frame) frame.line ≤ ni → band_end (layout_of frame) y * width_of (layout_of frame) frame.line ≤ nz → y < rows_of frame ni nz
    row_in h a b =
        let m = rows_hold (layout_of frame) frame.line (min ni nz) y whole (omega (arith, a, b)) in
        rw (rows_some whole) (omega (arith, h, m))

    -- so the test whether a row is in use is the three tests of these together
    pub row_test : ltb y (rows_of frame ni nz)
        ≡ ltb y most_rows && leb (band_end (layout_of frame) y * width_of (layout_of frame) frame.line) ni && leb (band_end (layout_of frame) y * width_of (layout_of frame) frame.line) nz
    row_test =
        same_test _ _
        (λ e. let k = row_ends (ltb-true _ _ e) in rw (lt-ltb _ _ k.0, le-leb _ _ k.1, le-leb _ _ k.2))
        (λ e.
        let k = both (ltb y most_rows && leb (band_end (layout_of frame) y * width_of (layout_of frame) frame.line) ni) (leb (band_end (layout_of frame) y * width_of (layout_of frame) frame.line) nz) e in
        let l = both (ltb y most_rows) (leb (band_end (layout_of frame) y * width_of (layout_of frame) frame.line) ni) k.0 in
        lt-ltb _ _ (row_in (ltb-true _ _ l.0) (leb-true _ _ l.1) (leb-true _ _ k.1)))

  -- the place of a pixel inside lies below both lengths
  module _ (x y : ℕ) (h : in_memory frame (rows_of frame ni nz) x y ≡ true) where
    inside_at : (x < frame.line) × (y < rows_of frame ni nz) × (mine (layout_of frame) x ≡ true)
    inside_at = inside_parts frame (rows_of frame ni nz) x y h

    inside_whole : is_whole (layout_of frame) frame.line ≡ true
    inside_whole = rows_whole y inside_at.1

    below_end : place_of frame x y < band_end (layout_of frame) y * width_of (layout_of frame) frame.line
    unfolding place_of
    below_end = spot_low (layout_of frame) frame.line x y inside_whole inside_at.0

    -- so both memories have the place
    pub place_below : (place_of frame x y < ni) × (place_of frame x y < nz)
    place_below =
        let k = row_ends y inside_whole inside_at.1 in
        (omega (arith, below_end, k.1), omega (arith, below_end, k.2))

    -- and below the pixels of the rows in use
    pub place_low : place_of frame x y < rows_of frame ni nz * width_of (layout_of frame) frame.line
    place_low =
        let k : y < min (rows_in (layout_of frame) frame.line (min ni nz)) most_rows = rw (rows_some inside_whole) at inside_at.1 in
        let m = band_low (layout_of frame) frame.line (min ni nz) y k in
        let end : band_end (layout_of frame) y ≤ rows_of frame ni nz = rw (rows_some inside_whole) m in
        omega (arith, below_end, mul-le-mul_right {m = band_end (layout_of frame) y} {n = rows_of frame ni nz} (width_of (layout_of frame) frame.line) end)

  -- no two pixels inside share a place
  pub place_apart : (x y x' y' : ℕ) → in_memory frame (rows_of frame ni nz) x y ≡ true → in_memory frame (rows_of frame ni nz) x' y' ≡ true
      → place_of frame x y ≡ place_of frame x' y' → (x ≡ x') × (y ≡ y')
  unfolding place_of
  place_apart x y x' y' h h' e =
      spot_apart (layout_of frame) frame.line x y x' y' (inside_whole x y h) (inside_at x y h).0 (inside_at x' y' h').0 (inside_at x y h).2 (inside_at x' y' h').2 e

-- a place of 16-bit coordinates fits
pub place_fits : (a b : ℕ) → a ≤ 65536 → b ≤ 65535 → a * b ≤ 4294901760
place_fits a b h k = mul-le-mul {n₁ = a} {m₁ = b} {n₂ = 65536} {m₂ = 65535} h k

-- for a row and a line length of 16 bits, the whole tiles before the row's band are at most 268,402,689
pub tile_fits : (y line : ℕ) → y ≤ 65535 → line ≤ 65535 → y / 4 * (line / 4) ≤ 268402689
tile_fits y line h k = mul-le-mul {n₁ = y / 4} {m₁ = line / 4} {n₂ = 16383} {m₂ = 16383} (omega (arith, h)) (omega (arith, k))

-- for a row and a unit's width of 16 bits, the unit's places before the row are at most 4,294,836,225
pub part_fits : (y line ways : ℕ) → y ≤ 65535 → line / ways ≤ 65535 → y * (line / ways) ≤ 4294836225
part_fits y line ways h k = mul-le-mul {n₁ = y} {m₁ = line / ways} {n₂ = 65535} {m₂ = 65535} h k

-- rows one after the other: y times the line length, and x
pub place_plain : (frame : Frame) (x y : ℕ) → lies_plain frame ≡ true → place_of frame x y ≡ y * frame.line + x
unfolding place_of spot_of
place_plain frame x y e = rw (lies_plain_lem frame e)

-- in tiles, the place that tiles of the line length give it
pub place_tiled : (frame : Frame) (x y : ℕ) → lies_tiled frame ≡ true → place_of frame x y ≡ spot_of tiled frame.line x y
unfolding place_of
place_tiled frame x y e = rw (lies_tiled_lem frame e)

-- of a unit: y times the line length over the number of units, and x over that number
pub place_shared : (frame : Frame) (x y : ℕ) → lies_plain frame ≡ false → lies_tiled frame ≡ false
    → place_of frame x y ≡ y * (frame.line / ways_of frame) + x / ways_of frame
unfolding place_of spot_of
place_shared frame x y e f = rw (lies_shared frame e f)

-- so that pixels of a row lie side by side
pub place_beside : (frame : Frame) (x y j : ℕ) → lies_plain frame ≡ true → place_of frame x y + j ≡ place_of frame (x + j) y
place_beside frame x y j e = rw (place_plain frame x y e, place_plain frame (x + j) y e) (add_assoc (y * frame.line) x j)

-- and in tiles as far apart as those of the first row
pub place_along : (frame : Frame) (x y : ℕ) → lies_tiled frame ≡ true → place_of frame 0 y + along_tiles x ≡ place_of frame x y
unfolding spot_of
place_along frame x y e = rw (place_tiled frame 0 y e, place_tiled frame x y e) (along (y / 4 * (frame.line / 4)) (y % 4))
  where
    along : (q r : ℕ) → (q + 0 / 4) * 16 + (4 * r + 0 % 4) + (x + 12 * (x / 4)) ≡ (q + x / 4) * 16 + (4 * r + x % 4)
    along q r = omega arith

-- a pixel in a column of the line that the memory has, and in a row in use, is inside
pub inside_of : (frame : Frame) (rows x y : ℕ) → x < frame.line → y < rows → mine (layout_of frame) x ≡ true → in_memory frame rows x y ≡ true
unfolding in_memory
inside_of frame rows x y h k m = rw (lt-ltb _ _ h, lt-ltb _ _ k, m)

-- the number of a unit's layout is no less than the units'
pub ways_low : (frame : Frame) → lies_plain frame ≡ false → lies_tiled frame ≡ false → ways_of frame ≤ frame.layout
ways_low frame e f =
    let n = neither (eqb frame.layout 0) (ltb 7 frame.layout) e in
    go (ltb frame.layout 4) refl (eqb-false frame.layout 0 n.0) (eqb-false frame.layout 1 f)
  where
    go : (b : Bool) → ltb frame.layout 4 ≡ b → (frame.layout ≡ 0 → ⊥) → (frame.layout ≡ 1 → ⊥) → cond b 2 4 ≤ frame.layout
    go true t z o = omega (arith, z, o)
    go false t z o = let m = ltb-false frame.layout 4 t in omega (arith, m)

-- the columns of a unit, without a difference
pub mine_shared : (frame : Frame) (x ways : ℕ) → lies_plain frame ≡ false → lies_tiled frame ≡ false → ways ≡ ways_of frame
    → eqb (x % ways + ways) frame.layout ≡ mine (layout_of frame) x
unfolding mine
mine_shared frame x ways e f is =
    let low = ways_low frame e f in
    rw (is, lies_shared frame e f)
    (same_test (eqb (x % ways_of frame + ways_of frame) frame.layout) (eqb (x % ways_of frame) (frame.layout - ways_of frame))
    (λ t. let s = eqb-true (x % ways_of frame + ways_of frame) frame.layout t in eq-eqb (x % ways_of frame) (frame.layout - ways_of frame) (omega (arith, s)))
    (λ t. let s = eqb-true (x % ways_of frame) (frame.layout - ways_of frame) t in eq-eqb (x % ways_of frame + ways_of frame) frame.layout (omega (arith, s, low))))

-- the rows that places hold, by the places of a row
pub rows_tiled : (frame : Frame) (n width : ℕ) → width ≡ width_of (layout_of frame) frame.line → lies_tiled frame ≡ true
    → n / (4 * width) * 4 ≡ rows_in (layout_of frame) frame.line n
unfolding width_of rows_in
rows_tiled frame n width e f = rw (e, lies_tiled_lem frame f)

-- but for tiles, places hold as many rows as their number over the places of a row, rounded down
pub rows_width : (frame : Frame) (n width : ℕ) → width ≡ width_of (layout_of frame) frame.line → lies_tiled frame ≡ false
    → n / width ≡ rows_in (layout_of frame) frame.line n
unfolding layout_of width_of rows_in
rows_width frame n width e f = rw (e, f) (go (lies_plain frame))
  where
    go : (b : Bool)
        → n / width_of (cond b plain (share (ways_of frame) (frame.layout - ways_of frame))) frame.line
        ≡ rows_in (cond b plain (share (ways_of frame) (frame.layout - ways_of frame))) frame.line n
    go true = refl
    go false = refl

-- rows one after the other have every column
pub plain_mine : (frame : Frame) (x : ℕ) → lies_plain frame ≡ true → mine (layout_of frame) x ≡ true
unfolding mine
plain_mine frame x e = rw (lies_plain_lem frame e)

-- and so have tiles
pub tiled_mine : (frame : Frame) (x : ℕ) → lies_tiled frame ≡ true → mine (layout_of frame) x ≡ true
unfolding mine
tiled_mine frame x e = rw (lies_tiled_lem frame e)

-- of tests one of which holds, the other where the one does not
or_other : (a b : Bool) → a || b ≡ true → b ≡ false → a ≡ true
or_other true b e f = refl
or_other false b e f = sym f ∙ e

-- that there are units needs no test where there are two or more
pub some_ways : (a b : Bool) (ways : ℕ) → 2 ≤ ways → a && b ≡ a && not (eqb ways 0) && b
some_ways true b ways h = rw (ne_eqb ways 0 (λ e. absurd (omega (arith, e, h))))
some_ways false b ways h = refl

-- in rows and in tiles, the places of a row are as many as the line length says
pub whole_width : (frame : Frame) → lies_plain frame || lies_tiled frame ≡ true → width_of (layout_of frame) frame.line ≡ frame.line
unfolding width_of
whole_width frame h = go (lies_plain frame) refl h
  where
    go : (b : Bool) → lies_plain frame ≡ b → b || lies_tiled frame ≡ true → width_of (layout_of frame) frame.line ≡ frame.line
    go true e t = rw (lies_plain_lem frame e)
    go false e t = rw (lies_tiled_lem frame t)

-- in rows and in tiles, how far apart those of the first row lie, and that the memory has every column
module _ (frame : Frame) (x : ℕ) (e : lies_plain frame || lies_tiled frame ≡ true) where
  -- in rows and in tiles a pixel's place is that of its row's first pixel, and how far along the row column x is
  pub along_place : (y : ℕ) → place_of frame 0 y + cond (lies_tiled frame) (along_tiles x) x ≡ place_of frame x y
  along_place y = go (lies_tiled frame) refl
    where
      go : (b : Bool) → lies_tiled frame ≡ b → place_of frame 0 y + cond b (along_tiles x) x ≡ place_of frame x y
      go true t = place_along frame x y t
      go false t = place_beside frame 0 y x (or_other (lies_plain frame) (lies_tiled frame) e t) ∙ ap (λ (n : ℕ). place_of frame n y) (zero-add x)

  -- in rows and in tiles the memory has column x, whichever it is
  pub whole_mine : mine (layout_of frame) x ≡ true
  whole_mine = go (lies_tiled frame) refl
    where
      go : (b : Bool) → lies_tiled frame ≡ b → mine (layout_of frame) x ≡ true
      go true t = tiled_mine frame x t
      go false t = plain_mine frame x (or_other (lies_plain frame) (lies_tiled frame) e t)
