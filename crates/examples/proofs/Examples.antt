-- All starred examples of document 01 hold. Lines and numbers are computed, and so is what is offered on a small picture. A triangle's row
-- speaks of every pixel: those of a small square are computed, and beyond it lies no pixel of the corners' box. A line code's row speaks of
-- every record: of its table of refusals only the bounds and the code are asked. Assumes nothing.
use mathlib.Core.Path.{◌≡◌, refl, sym, ap, ◌∙◌}
use mathlib.Core.Bool.{Bool, true, false, cond, not, beq, ◌&&◌, ◌||◌, true≢false}
use mathlib.Core.List.{List, [], ◌∷◌, map}
use Prim.Native.Nat.{ℕ, ◌*◌, ◌/◌, ◌%◌, ◌≤◌, ◌<◌, max}
use native.Mathlib.Nat.{mod-mod}
use native.Mathlib.Omega.{arith}
use borrow.Author.Tests.{ltb-true, eqb-true, eq-eqb, le-leb}
use lib.Dec.{ltb, eqb}
use lib.ListN.{replicate, length-replicate}
use Rattle.stream.specs.Calls.{bad_length, bad_tail, checked, word_count, entry}
use Rattle.stream.proofs.Stream.{length_unpack}
use Rattle.stream.proofs.Calls.{cut_told, count_good}
use Rattle.picture.specs.declared.Vertex.{Vertex}
use Rattle.picture.specs.Place.{layout_of, mine, in_memory}
use Rattle.picture.specs.Offer.{Offer, has_bit, pattern_bit, shows, in_window, offered, keep}
use Rattle.picture.specs.Draw.{spans}
use Rattle.ground.proofs.Truth.{both, same_test}
use Rattle.picture.proofs.Rows.{every, each}
use Rattle.line.specs.Segment.{larger, smaller, x_leads, side_at, x_at, y_at, number_at, shade_offers, segment_offers}
use Rattle.triangle.specs.Edge.{plus_of, minus_of, edge_at, closed, inside, covers}
use Rattle.triangle.specs.Number.{mixed, shade}
use Rattle.triangle.specs.Offers.{corners_of, pixel_at, pixel_offers, triangle_offers}
use Rattle.triangle.proofs.Covers.{covered_across, covered_upward}
use Rattle.triangle.proofs.Turning.{left_turned, right_turned}
use Rattle.registers.specs.declared.Registers.{Registers}
use Rattle.registers.specs.Lines.{line_of, code_in, chips_in, unit_in, page_in}
use Rattle.registers.specs.Word.{decode}
use Rattle.registers.specs.Record.{settings}
use Rattle.registers.specs.Next.{record_after}
use Rattle.refusals.specs.Allowed.{init_allowed}
use Rattle.refusals.specs.Bounds.{in_bounds}
use Rattle.refusals.specs.Refusal.{refusal_of, next}
use Rattle.refusals.proofs.Kept.{reset_kept}
use Rattle.examples.specs.Examples.{Pixel, corner, through, walk, among, covered, holds, gives, transparency, triangle, line, numbers, code_gives, code_is, line_there, triangle_there, pixels_of, numbered, init_data, Says, table, done, ◌also◌, Claim}

-- ---- packed lengths

-- two words for each five bytes; a stream of zeros is good where its length is
held : (n : ℕ) → checked (replicate n 0) 0 ≡ 0 → Says (holds n (n * 2 / 5))
unfolding Says
held n z = (z, λ bytes e g. count_good bytes g ∙ length_unpack bytes ∙ ap (λ (m : ℕ). m * 2 / 5) e)

given_11 : (n : ℕ) → bad_length (replicate n 0) ≡ true → Says (gives n 11)
unfolding Says bad_length word_count entry
given_11 n z bytes e =
    let bad : bad_length bytes ≡ true = rw (e ∙ sym (length-replicate {A = ℕ} n 0)) z in
    (λ next. cut_told bytes next bad, rw (cut_told bytes 0 bad))

-- ---- line codes

-- INIT's data for a line code: its parts are found, and it is allowed where the code is listed
module _ (code top page : ℕ) (h : code < 64) (low : page ≤ 7) where
  code_found : code_in (init_data top code page) ≡ code
  code_found = omega arith

  init_allowed_lem : init_allowed (init_data top code page) ≡ not (eqb (line_of code) 0)
  unfolding init_allowed
  init_allowed_lem =
      let n : chips_in (init_data top code page) ≡ 0 = omega arith in
      let u : unit_in (init_data top code page) ≡ 0 = omega arith in
      let p : page_in (init_data top code page) ≤ 7 = omega arith in
      rw (code_found, n, u, le-leb _ _ p)

  -- of the table of refusals the bounds and the data are asked
  init_number : (n : ℕ) (r : Registers) → in_bounds r ≡ true → refusal_of n n r (decode 15 (init_data top code page)) ≡ cond (eqb (line_of code) 0) 9 0
  unfolding refusal_of decode
  init_number n r e = rw (eq-eqb n n refl, e, init_allowed_lem) (go (eqb (line_of code) 0))
    where
      go : (b : Bool) → ◌≡◌ {A = ℕ} (cond (not (not b)) 9 0) (cond b 9 0)
      go true = refl
      go false = refl

  init_line : (n : ℕ) (r : Registers) → in_bounds r ≡ true → eqb (line_of code) 0 ≡ false → (next n n r (decode 15 (init_data top code page))).frame.line ≡ line_of code
  unfolding next record_after decode settings
  init_line n r e f = rw (init_number n r e, f) (ap line_of code_found)

code_refused : (code : ℕ) → code < 64 → eqb (line_of code) 0 ≡ true → Says (code_gives code 9)
unfolding Says
code_refused code h e = record { reset = reset_kept; so = λ n r top page s low. rw e at (init_number code top page h low n r s) }

code_told : (code : ℕ) → code < 64 → eqb (line_of code) 0 ≡ false → Says (code_is code (line_of code))
unfolding Says
code_told code h e =
    record { reset = reset_kept; so = λ n r top page s low. (rw e at (init_number code top page h low n r s), init_line code top page h low n r s e) }

-- ---- tests that agree

same : (a b : Bool) → beq a b ≡ true → a ≡ b
same true true e = refl
same true false e = absurd (true≢false (sym e))
same false true e = absurd (true≢false (sym e))
same false false e = refl

-- two tests agree on a square of side n, computed
agree : ℕ → (ℕ → ℕ → Bool) → (ℕ → ℕ → Bool) → Bool
agree n f g = every (λ x. every (λ y. beq (f x y) (g x y)) n) n

agreed : (n : ℕ) (f g : ℕ → ℕ → Bool) → agree n f g ≡ true → (x y : ℕ) → x < n → y < n → f x y ≡ g x y
unfolding agree
agreed n f g e x y h k = same (f x y) (g x y) (each (λ y. beq (f x y) (g x y)) n (each (λ x. every (λ y. beq (f x y) (g x y)) n) n e x h) y k)

-- ---- the transparency pattern sees residues only

transparent : (pattern mx my : ℕ) → agree 4 (λ x y. has_bit pattern (pattern_bit x y)) (λ x y. eqb (x % 4) mx && eqb (y % 4) my) ≡ true → Says (transparency pattern mx my)
unfolding Says shows
transparent pattern mx my e pen p x y =
    let f = agreed 4 (λ x y. has_bit pattern (pattern_bit x y)) (λ x y. eqb (x % 4) mx && eqb (y % 4) my) e (x % 4) (y % 4) (omega arith) (omega arith) in
    rw p (rw (mod-mod x 4, mod-mod y 4) at f)

-- ---- a triangle, on every pixel

-- `omega` splits on each max, so the corners' greatest is a variable here
below : (v a b c n : ℕ) → v ≤ max a (max b c) → a < n → b < n → c < n → v < n
below v a b c n h p q r = omega arith

-- a pixel that is covered lies in any square that has the corners
module _ (a b c : Vertex) (n : ℕ) (ax : a.x < n) (bx : b.x < n) (cx : c.x < n) (ay : a.y < n) (by : b.y < n) (cy : c.y < n) (x y : ℕ) where
  covered_in : covered a b c x y ≡ true → (x < n) × (y < n)
  unfolding covered
  covered_in = go (ltb (edge_at a b c.x c.y).minus (edge_at a b c.x c.y).plus) (ltb (edge_at a b c.x c.y).plus (edge_at a b c.x c.y).minus) refl refl
    where
      go : (l r : Bool) → ltb (edge_at a b c.x c.y).minus (edge_at a b c.x c.y).plus ≡ l → ltb (edge_at a b c.x c.y).plus (edge_at a b c.x c.y).minus ≡ r
          → cond l (covers (corners_of a b c c) x y) (cond r (covers (corners_of a c b c) x y) false) ≡ true → (x < n) × (y < n)
      go true r p q h =
          let k = left_turned a b c (edge_at a b c.x c.y) refl (ltb-true _ _ p) in
          (below x _ _ _ n (covered_across (corners_of a b c c) k x y h).1 ax bx cx, below y _ _ _ n (covered_upward (corners_of a b c c) k x y h).1 ay cy by)
      go false true p q h =
          let k = right_turned a b c (edge_at a b c.x c.y) refl (ltb-true _ _ q) in
          (below x _ _ _ n (covered_across (corners_of a c b c) k x y h).1 ax cx bx, below y _ _ _ n (covered_upward (corners_of a c b c) k x y h).1 ay by cy)
      go false false p q h = absurd (true≢false (sym h))

-- every pixel of a list lies in a square, computed
in_square : ℕ → List Pixel → Bool
in_square n [] = true
in_square n (p ∷ ps) = ltb p.x n && ltb p.y n && in_square n ps

among_in : (n x y : ℕ) (ps : List Pixel) → in_square n ps ≡ true → among x y ps ≡ true → (x < n) × (y < n)
unfolding in_square among
among_in n x y [] f e = absurd (true≢false (sym e))
among_in n x y (p ∷ ps) f e =
    let g = both (ltb p.x n && ltb p.y n) (in_square n ps) f in
    let h = both (ltb p.x n) (ltb p.y n) g.0 in
    go (eqb x p.x && eqb y p.y) refl e (among_in n x y ps g.1) (ltb-true _ _ h.0) (ltb-true _ _ h.1)
  where
    go : (b : Bool) → eqb x p.x && eqb y p.y ≡ b → b || among x y ps ≡ true → (among x y ps ≡ true → (x < n) × (y < n)) → p.x < n → p.y < n → (x < n) × (y < n)
    go true t e f hx hy =
        let k = both (eqb x p.x) (eqb y p.y) t in
        (omega (arith, eqb-true x p.x k.0), omega (arith, eqb-true y p.y k.1))
    go false t e f hx hy = f e

-- two tests that hold only in a square, and agree there, agree
squared : (n : ℕ) (f g : ℕ → ℕ → Bool) → agree n f g ≡ true → ((x y : ℕ) → f x y ≡ true → (x < n) × (y < n)) → ((x y : ℕ) → g x y ≡ true → (x < n) × (y < n))
    → (x y : ℕ) → f x y ≡ g x y
squared n f g e hf hg x y =
    same_test (f x y) (g x y)
    (λ t. let k = hf x y t in sym (agreed n f g e x y k.0 k.1) ∙ t)
    (λ t. let k = hg x y t in agreed n f g e x y k.0 k.1 ∙ t)

triangled : (n : ℕ) (p q r : Pixel) (ps : List Pixel) → p.x < n → q.x < n → r.x < n → p.y < n → q.y < n → r.y < n
    → in_square n ps ≡ true → agree n (covered (corner p) (corner q) (corner r)) (λ x y. among x y ps) ≡ true
    → (x y : ℕ) → covered (corner p) (corner q) (corner r) x y ≡ among x y ps
triangled n p q r ps a b c d e f g h =
    squared n (covered (corner p) (corner q) (corner r)) (λ x y. among x y ps) h
    (covered_in (corner p) (corner q) (corner r) n a b c d e f)
    (λ x y. among_in n x y ps g)

-- ---- all rows

lines : (p q : Pixel) (ps : List Pixel) → walk p q ≡ ps → pixels_of (line_there (corner p) (corner q)) ≡ ps → Says (line p q ps)
unfolding Says
lines p q ps e f = (e, f)

ramped : (n first second : ℕ) (told : List ℕ) → through n (λ k. number_at n k first second) ≡ told
    → map (λ (o : Offer). o.i) (line_there (numbered 0 first) (numbered n second)) ≡ told
    → map (λ (o : Offer). o.z) (line_there (numbered 0 first) (numbered n second)) ≡ told → Says (numbers n first second told)
unfolding Says
ramped n first second told e f g = (e, f, g)

-- a triangle whose corners lie in the square of side 3
small : (p q r : Pixel) (ps : List Pixel) → in_square 3 (p ∷ q ∷ r ∷ ps) ≡ true → agree 3 (covered (corner p) (corner q) (corner r)) (λ x y. among x y ps) ≡ true
    → pixels_of (triangle_there (corner p) (corner q) (corner r)) ≡ ps → Says (triangle p q r ps)
unfolding in_square Says
small p q r ps e h o =
    let f = inside_square p (q ∷ r ∷ ps) e in
    let g = inside_square q (r ∷ ps) f.2 in
    let k = inside_square r ps g.2 in
    (triangled 3 p q r ps f.0 g.0 k.0 f.1 g.1 k.1 k.2 h, o)
  where
    inside_square : (p : Pixel) (ps : List Pixel) → in_square 3 (p ∷ ps) ≡ true → (p.x < 3) × (p.y < 3) × (in_square 3 ps ≡ true)
    inside_square p ps e =
        let g = both (ltb p.x 3 && ltb p.y 3) (in_square 3 ps) e in
        let h = both (ltb p.x 3) (ltb p.y 3) g.0 in
        (ltb-true _ _ h.0, ltb-true _ _ h.1, g.1)

-- all starred examples of the document hold
pub examples : Claim
unfolding
    table checked bad_length bad_tail walk through larger smaller x_leads side_at x_at y_at number_at every agree in_square among covered covers
    closed inside plus_of minus_of in_memory mine layout_of in_window shows offered keep spans shade_offers segment_offers mixed shade pixel_at
    pixel_offers triangle_offers line_of
examples =
    lines _ _ _ refl refl also lines _ _ _ refl refl
    also ramped _ _ _ _ refl refl refl also ramped _ _ _ _ refl refl refl
    also small _ _ _ _ refl refl refl also small _ _ _ _ refl refl refl also small _ _ _ _ refl refl refl also small _ _ _ _ refl refl refl
    also transparent _ _ _ refl
    also held 0 refl also held 3 refl also held 5 refl also given_11 4 refl
    also code_refused 16 (omega arith) refl also code_told 47 (omega arith) refl
    also done
