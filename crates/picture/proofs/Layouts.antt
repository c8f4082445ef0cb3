-- Each layout by itself: its rows end where they should, and a pixel has a place of its own below that end. Assumes nothing.
use Rattle.std.proofs.Common.{◌≡◌, ℕ, zero, suc, ◌+◌, ◌*◌, ◌/◌, ◌%◌, ◌<◌, ◌≤◌, min, true, not, ◌&&◌, eqb, sym, refl, ap, ◌∙◌, ap₂, mul_assoc, suc-mul, div-lt_iff_lt-mul, div-add-mod', le-div_iff_mul-le, zero-mul, add-one, arith, eqb-true}
use lib.Arith.{digits_lt, digits_div, digits_mod}
use borrow.Author.Tests.{eqb-false, not-true}
use Rattle.ground.proofs.Truth.{both}
use Rattle.picture.specs.Limits.{most_rows}
use Rattle.picture.specs.Place.{Layout, plain, tiled, share, spot_of, is_whole, width_of, rows_in, mine}
use Rattle.picture.specs.Loops.{band_end}

-- ---- numbers of two digits

-- are equal digit by digit
pub digits_apart : {q r q' r' c : ℕ} → r < c → r' < c → q * c + r ≡ q' * c + r' → (q ≡ q') × (r ≡ r')
digits_apart {q} {r} {q'} {r'} {c} h h' e =
    (sym (digits_div q h) ∙ ap (λ (n : ℕ). n / c) e ∙ digits_div q' h', sym (digits_mod q h) ∙ ap (λ (n : ℕ). n % c) e ∙ digits_mod q' h')

-- and are their quotient and remainder
pub digits_same : {a b : ℕ} (c : ℕ) → a / c ≡ b / c → a % c ≡ b % c → a ≡ b
digits_same {a} {b} c q r = sym (div-add-mod' a c) ∙ ap₂ (λ (m n : ℕ). m * c + n) q r ∙ div-add-mod' b c

-- ---- the line length

some : (line : ℕ) → not (eqb line 0) ≡ true → 0 < line
some line e = let k = eqb-false line 0 (not-true _ e) in omega (arith, k)

-- a line length that suits its layout is not 0
pub whole_some : (k : Layout) (line : ℕ) → is_whole k line ≡ true → 0 < line
unfolding is_whole
whole_some plain line w = some line w
whole_some tiled line w = some line (both (not (eqb line 0)) (eqb (line % 4) 0) w).0
whole_some (share ways unit) line w = some line (both (not (eqb line 0)) (not (eqb ways 0)) (both (not (eqb line 0) && not (eqb ways 0)) (eqb (line % ways) 0) w).0).0

whole_ways : (ways unit line : ℕ) → is_whole (share ways unit) line ≡ true → (0 < ways) × (line ≡ line / ways * ways)
unfolding is_whole
whole_ways ways unit line w =
    let k = both (not (eqb line 0) && not (eqb ways 0)) (eqb (line % ways) 0) w in
    let e = eqb-true (line % ways) 0 k.1 in
    (some ways (both (not (eqb line 0)) (not (eqb ways 0)) k.0).1, omega (arith, e, div-add-mod' line ways))

part_some : (line ways q : ℕ) → line / ways ≡ q → line ≡ line / ways * ways → 0 < line → 0 < line / ways
part_some line ways zero e f h = let none = f ∙ ap (λ (k : ℕ). k * ways) e ∙ zero-mul ways in absurd (omega (arith, none, h))
part_some line ways (suc q) e f h = omega (arith, e)

-- a row has places
pub width_some : (k : Layout) (line : ℕ) → is_whole k line ≡ true → 0 < width_of k line
unfolding width_of
width_some plain line w = whole_some plain line w
width_some tiled line w = whole_some tiled line w
width_some (share ways unit) line w = part_some line ways (line / ways) refl (whole_ways ways unit line w).1 (whole_some (share ways unit) line w)

-- a line length that suits tiles is a multiple of four
pub whole_tiles : (line : ℕ) → is_whole tiled line ≡ true → line ≡ line / 4 * 4
unfolding is_whole
whole_tiles line w = let e = eqb-true (line % 4) 0 (both (not (eqb line 0)) (eqb (line % 4) 0) w).1 in omega (arith, e)

row_some : (ways unit line : ℕ) → is_whole (share ways unit) line ≡ true → 0 < line / ways
unfolding width_of
row_some ways unit line w = width_some (share ways unit) line w

-- a column is one of the unit's
share_lt : (x line ways : ℕ) → 0 < ways → line ≡ line / ways * ways → x < line → x / ways < line / ways
share_lt x line ways s e h = (div-lt_iff_lt-mul s).1 (rw e at h)

-- ---- where rows end

tile_rows : (y line : ℕ) → (y / 4 * 4 + 4) * line ≡ (y / 4 + 1) * (4 * line)
tile_rows y line = let e : y / 4 * 4 + 4 ≡ (y / 4 + 1) * 4 = omega arith in ap (λ (n : ℕ). n * line) e ∙ mul_assoc (y / 4 + 1) 4 line

-- row y is among those that so many places hold where its band ends inside
pub rows_end : (k : Layout) (line n y : ℕ) → is_whole k line ≡ true → y < rows_in k line n → band_end k y * width_of k line ≤ n
unfolding rows_in band_end width_of
rows_end plain line n y w h = (le-div_iff_mul-le {k = line} {x = y + 1} {y = n} (whole_some plain line w)).0 (omega (arith, h))
rows_end tiled line n y w h =
    let l = whole_some tiled line w in
    rw (tile_rows y line) ((le-div_iff_mul-le {k = 4 * line} {x = y / 4 + 1} {y = n} (omega (arith, l))).0 (omega (arith, h)))
rows_end (share ways unit) line n y w h =
    let l = row_some ways unit line w in
    (le-div_iff_mul-le {k = line / ways} {x = y + 1} {y = n} l).0 (omega (arith, h))

-- and the other way round, a row whose band ends inside so many places is among those that they hold
pub rows_hold : (k : Layout) (line n y : ℕ) → is_whole k line ≡ true → band_end k y * width_of k line ≤ n → y < rows_in k line n
unfolding rows_in band_end width_of
rows_hold plain line n y w h = let m = (le-div_iff_mul-le {k = line} {x = y + 1} {y = n} (whole_some plain line w)).1 h in omega (arith, m)
rows_hold tiled line n y w h =
    let l = whole_some tiled line w in
    let m = (le-div_iff_mul-le {k = 4 * line} {x = y / 4 + 1} {y = n} (omega (arith, l))).1 (rw (tile_rows y line) at h) in
    omega (arith, m)
rows_hold (share ways unit) line n y w h =
    let l = row_some ways unit line w in
    let m = (le-div_iff_mul-le {k = line / ways} {x = y + 1} {y = n} l).1 h in omega (arith, m)

-- rows in use are whole bands
pub band_low : (k : Layout) (line n y : ℕ) → y < min (rows_in k line n) most_rows → band_end k y ≤ min (rows_in k line n) most_rows
unfolding rows_in band_end
band_low plain line n y h = omega (arith, h)
band_low tiled line n y h = omega (arith, h)
band_low (share ways unit) line n y h = omega (arith, h)

-- ---- places

-- a column is in one of the whole tiles
tile_lt : (x line : ℕ) → line ≡ line / 4 * 4 → x < line → x / 4 < line / 4
tile_lt x line e h = omega (arith, e, h)

-- a pixel's place is below the end of its band
pub spot_low : (k : Layout) (line x y : ℕ) → is_whole k line ≡ true → x < line → spot_of k line x y < band_end k y * width_of k line
unfolding spot_of band_end width_of
spot_low plain line x y w h = rw (add-one y, suc-mul y line) (omega (arith, h))
spot_low tiled line x y w h =
    let e = whole_tiles line w in
    let band : (y / 4 + 1) * (line / 4) * 16 ≡ (y / 4 * 4 + 4) * line =
    mul_assoc (y / 4 + 1) (line / 4) 16 ∙ (let f : line / 4 * 16 ≡ 4 * line = omega (arith, e) in ap (λ (n : ℕ). (y / 4 + 1) * n) f) ∙ sym (tile_rows y line) in
    let q : y / 4 < y / 4 + 1 = omega arith in
    let low : 4 * (y % 4) + x % 4 < 16 = omega arith in
    rw (← band) (digits_lt (digits_lt q (tile_lt x line e h)) low)
spot_low (share ways unit) line x y w h =
    let e = whole_ways ways unit line w in
    rw (add-one y, suc-mul y (line / ways)) (omega (arith, share_lt x line ways e.0 e.1 h))

-- and no other pixel's
pub spot_apart : (k : Layout) (line x y x' y' : ℕ) → is_whole k line ≡ true → x < line → x' < line → mine k x ≡ true → mine k x' ≡ true
    → spot_of k line x y ≡ spot_of k line x' y' → (x ≡ x') × (y ≡ y')
unfolding spot_of mine
spot_apart plain line x y x' y' w h h' m m' e = let d = digits_apart h h' e in (d.1, d.0)
spot_apart tiled line x y x' y' w h h' m m' e =
    let t = whole_tiles line w in
    let d = digits_apart {q = y / 4 * (line / 4) + x / 4} {q' = y' / 4 * (line / 4) + x' / 4} {c = 16} (omega arith) (omega arith) e in
    let high = digits_apart (tile_lt x line t h) (tile_lt x' line t h') d.0 in
    let low = d.1 in
    let a : x ≡ x' = omega (arith, high.1, low) in
    let b : y ≡ y' = omega (arith, high.0, low) in
    (a, b)
spot_apart (share ways unit) line x y x' y' w h h' m m' e =
    let t = whole_ways ways unit line w in
    let d = digits_apart (share_lt x line ways t.0 t.1 h) (share_lt x' line ways t.0 t.1 h') e in
    (digits_same ways d.1 (eqb-true (x % ways) unit m ∙ sym (eqb-true (x' % ways) unit m')), d.0)
