-- A triangle drawn row by row, however its rows are drawn: how far it has come, and that it is drawn in the end. Assumes nothing.
use Rattle.std.proofs.Common.{◌≡◌, ℕ, ◌+◌, ◌<◌, ◌≤◌, min, Bool, List, length, ap, ◌∙◌, ap₂, mul-le-mul, arith}
use native.Mathlib.Nat.{min-le_left, min-le_right}
use Rattle.picture.specs.declared.Pen.{Pen}
use Rattle.picture.specs.Limits.{most_rows}
use Rattle.picture.specs.Place.{rows_of}
use Rattle.picture.specs.Picture.{picture, drawn}
use Rattle.picture.proofs.Places.{rows_low}
use Rattle.picture.proofs.Spans.{Reached, reached_start, reached_add, reached_end, reached_count, reached_i, reached_z}
use Rattle.triangle.specs.declared.Corners.{Corners}
use Rattle.triangle.specs.declared.Flanks.{Flanks}
use Rattle.triangle.specs.Offers.{row_offers, turned_offers}
use Rattle.triangle.specs.Loops.{start_of, end_of, Crossed, InRows, Ranges}
use Rattle.triangle.proofs.Rows.{row_length, row_below, row_above, row_within, row_crossed}

-- the rows in use of the memories as they were lent
abbrev rows_for : Pen → List ℕ → List ℕ → ℕ
rows_for pen im zm = rows_of pen.frame (length im) (length zm)

-- how far the triangle is drawn before row y
pub record Going (pen : Pen) (constant : Bool) (t : Corners) (im₀ zm₀ : List ℕ) (first top : ℕ) (im zm : List ℕ) (y n : ℕ) : Type 0 where
  pub since : first ≤ y
  pub until : y ≤ top
  pub so_far_lem : Reached pen (row_offers pen (rows_for pen im₀ zm₀) constant t) im₀ zm₀ im zm n y

module _ (pen : Pen) (constant : Bool) (t : Corners) (f : Flanks) (im₀ zm₀ : List ℕ) (first top : ℕ) (k : Ranges pen t f first top (length im₀) (length zm₀))
    (line : pen.frame.line ≤ 65535) where
  abbrev rows : ℕ
  rows = rows_for pen im₀ zm₀

  -- no row is drawn that is not in use, and few are
  pub top_low : (top ≤ rows) × (rows ≤ most_rows)
  top_low = (rw k.end (min-le_left _ _), rows_low pen.frame (length im₀) (length zm₀))

  bottom : first ≡ min (start_of pen.bottom t.a.y t.c.y t.b.y) (end_of rows pen.top t.a.y t.c.y t.b.y)
  bottom = k.start ∙ ap (λ (e : ℕ). min (start_of pen.bottom t.a.y t.c.y t.b.y) e) k.end

  -- before the first row nothing is drawn
  pub going_start : Going pen constant t im₀ zm₀ first top im₀ zm₀ first 0
  going_start =
      record {
        since = omega arith;
        until = rw k.start (min-le_right _ _);
        so_far_lem = reached_start (λ y h. row_below pen rows constant t k.turned y (rw bottom at h));
      }

  module _ (im zm : List ℕ) (y n : ℕ) (g : Going pen constant t im₀ zm₀ first top im zm y n) where
    module _ (h : y < top) where
      -- a row that is still to be drawn is one of the window
      pub going_row : InRows pen y
      going_row = row_within pen rows constant t k.turned y (rw bottom at g.since) (rw k.end at h)

      -- and one of the corners
      pub going_crossed : Crossed t y
      going_crossed = row_crossed pen rows constant t k.turned k.lowest y (rw bottom at g.since) (rw k.end at h)

      -- the row drawn, whatever was drawn before
      module _ (im₁ zm₁ : List ℕ) (m : ℕ)
          (e : picture im₁ zm₁ m ≡ drawn pen (row_offers pen (rows_for pen im zm) constant t y) (picture im zm 0)) where
        same : picture im₁ zm₁ m ≡ drawn pen (row_offers pen rows constant t y) (picture im zm 0)
        same =
            e
            ∙ ap (λ (r : ℕ). drawn pen (row_offers pen r constant t y) (picture im zm 0))
            (ap₂ (λ (i z : ℕ). rows_of pen.frame i z) (reached_i g.so_far_lem) (reached_z g.so_far_lem))

        -- with that row drawn the triangle is drawn before the next
        pub going_more : Going pen constant t im₀ zm₀ first top im₁ zm₁ (y + 1) (n + m)
        going_more = record { since = omega (arith, g.since); until = omega arith; so_far_lem = reached_add g.so_far_lem same }

        -- the count has room
        pub going_count : n + m < 18446744073709551616
        going_count =
            omega (
              arith,
              reached_count pen.frame.line (reached_add g.so_far_lem same) (λ y. row_length pen rows constant t y),
              mul-le-mul {n₁ = y + 1} {m₁ = pen.frame.line} {n₂ = most_rows} {m₂ = 65535} (omega (arith, top_low.0, top_low.1)) line,
            )

    -- once no row is left, all is drawn
    pub going_end : top ≤ y → picture im zm n ≡ drawn pen (turned_offers pen rows constant t) (picture im₀ zm₀ 0)
    going_end h =
        reached_end rows g.so_far_lem (omega (arith, g.until, top_low.0))
        (λ x u l. row_above pen rows constant t k.turned x (omega (arith, k.end)) l)
