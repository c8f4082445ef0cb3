-- What the chip promises to boards (document 02, [8]) is kept. Of one, two or four units each has its columns, and place p of the one chip is place p div N
-- of unit p mod N, whatever the line length; so what a word offers the one chip is dealt out to the units. Assumes nothing.
use Rattle.std.proofs.Common.{◌≡◌, ℕ, zero, suc, ◌+◌, ◌*◌, ◌/◌, ◌%◌, ◌<◌, ◌≤◌, Bool, true, false, eqb, ◌≢◌, List, [], length, sym, refl, ap, ◌∙◌, subst, ap₂, inl, inr, add_assoc, mod-lt, mul_assoc, add-mul, div-add-mod', arith, eq-eqb}
use mathlib.Core.List.Memᴰ
use mathlib.Core.List.{Memᴰ}
use lib.Arith.{digits_div, digits_mod}
use Rattle.picture.specs.declared.Frame.{Frame}
use Rattle.picture.specs.declared.Pen.{Pen}
use Rattle.picture.specs.Place.{Layout, frame_of, plain_frame, layout_of, spot_of, place_of, is_whole, rows_in as rowsHeld, rows_of, mine, in_memory}
use Rattle.picture.specs.Offer.{Offer}
use Rattle.picture.specs.Picture.{Picture, picture, drawn}
use Rattle.picture.specs.Cell.{cell_at}
use Rattle.picture.specs.Store.{Store, filled}
use Rattle.picture.proofs.Places.{inside_parts, inside_of, place_plain, place_below}
use Rattle.picture.proofs.Fold.{drawn_i, drawn_z}
use Rattle.picture.proofs.Stores.{filled_i, filled_z, filled_passed}
use Rattle.registers.specs.declared.Registers.{Registers}
use Rattle.registers.specs.declared.word.Word.{Word}
use Rattle.registers.specs.Lines.{line_unit}
use Rattle.registers.specs.Record.{laid}
use Rattle.refusals.specs.Bounds.{largest_layout}
use Rattle.registers.specs.Next.{record_after, pen_of}
use Rattle.refusals.specs.Refusal.{is_init, refusal_of}
use Rattle.refusals.proofs.Refusals.{accepted_when}
use Rattle.registers.proofs.Layouts.{after_laid}
use Rattle.refusals.proofs.Layouts.{number_laid, number_even}
use Rattle.machine.specs.Run.{Outcome}
use Rattle.machine.specs.Machine.{Memories, memories, Even, rows_in, accepted, refused, number_of}
use Rattle.machine.specs.Touched.{cell_in}
use Rattle.machine.specs.Shares.{held_by, stores_held_by, sum_of, ReadTogether}
use Rattle.machine.proofs.Runs.{zero_or_not}
use Rattle.machine.proofs.Steps.{step_accepted, step_refused}
use Rattle.machine.proofs.Pixels.{Twins, Sized}
use Rattle.machine.proofs.Shares.{sum_same, sum_none, Deals, drawn_dealt, filled_dealt, count_dealt}
use Rattle.chip.specs.Chip.{figure_offers, chip}
use Rattle.chip.specs.Units.{Ways, unit_layout, unit_step, one_step, SameRows, Together, Units}
use Rattle.chip.proofs.Laws.{nothing_offered, word_unstored, init_quiet, inside, line_whole, count_low}
use Rattle.chip.proofs.Layouts.{pens_laid, offers_laid, stores_laid}

-- ---- one, two or four

-- what holds of each of these numbers of units
by_ways : (P : ℕ → Type 0) → P 1 → P 2 → P 4 → (ways : ℕ) → Ways ways → P ways
by_ways P one two four ways (inl e) = subst P (sym e) one
by_ways P one two four ways (inr (inl e)) = subst P (sym e) two
by_ways P one two four ways (inr (inr e)) = subst P (sym e) four

-- and of each unit of two, and of four
of_two : (P : ℕ → Type 0) → P 0 → P 1 → (u : ℕ) → u < 2 → P u
of_two P a b zero l = a
of_two P a b (suc zero) l = b
of_two P a b (suc (suc u)) l = absurd (omega (arith, l))

of_four : (P : ℕ → Type 0) → P 0 → P 1 → P 2 → P 3 → (u : ℕ) → u < 4 → P u
of_four P a b c d zero l = a
of_four P a b c d (suc zero) l = b
of_four P a b c d (suc (suc zero)) l = c
of_four P a b c d (suc (suc (suc zero))) l = d
of_four P a b c d (suc (suc (suc (suc u)))) l = absurd (omega (arith, l))

ways_some : (ways : ℕ) → Ways ways → 0 < ways
ways_some = by_ways (λ ways. 0 < ways) (omega arith) (omega arith) (omega arith)

-- each unit has as much of a line whose length is a multiple of 64
ways_whole : (line : ℕ) → line % line_unit ≡ 0 → (ways : ℕ) → Ways ways → line ≡ line / ways * ways
ways_whole line h = by_ways (λ ways. line ≡ line / ways * ways) (omega arith) (omega (arith, h)) (omega (arith, h))

-- a unit's layout is one that a record may have
layout_low : (ways : ℕ) → Ways ways → (u : ℕ) → u < ways → unit_layout ways u ≤ largest_layout
layout_low = by_ways (λ ways. (u : ℕ) → u < ways → unit_layout ways u ≤ largest_layout) (λ u l. omega arith) (λ u l. omega (arith, l)) (λ u l. omega (arith, l))

-- ---- where the pixels of a unit lie

module _ (line : ℕ) where
  abbrev unit_frame : ℕ → ℕ → Frame
  unit_frame ways u = frame_of line (unit_layout ways u)

  -- it has the columns whose remainder is its number
  unit_mine : (x ways : ℕ) → Ways ways → (u : ℕ) → u < ways → mine (layout_of (unit_frame ways u)) x ≡ eqb (x % ways) u
  unfolding mine layout_of
  unit_mine x =
      by_ways (λ ways. (u : ℕ) → u < ways → mine (layout_of (unit_frame ways u)) x ≡ eqb (x % ways) u)
      (λ u l. let none : x % 1 ≡ u = omega (arith, l) in sym (eq-eqb (x % 1) u none))
      (of_two (λ u. mine (layout_of (unit_frame 2 u)) x ≡ eqb (x % 2) u) refl refl)
      (of_four (λ u. mine (layout_of (unit_frame 4 u)) x ≡ eqb (x % 4) u) refl refl refl refl)

  -- each of them at these places
  unit_spot : (x y ways : ℕ) → Ways ways → (u : ℕ) → u < ways → place_of (unit_frame ways u) x y ≡ y * (line / ways) + x / ways
  unfolding place_of spot_of layout_of
  unit_spot x y =
      by_ways (λ ways. (u : ℕ) → u < ways → place_of (unit_frame ways u) x y ≡ y * (line / ways) + x / ways)
      (λ u l. let a : line ≡ line / 1 = omega arith in let b : x ≡ x / 1 = omega arith in ap₂ (λ (m n : ℕ). y * m + n) a b)
      (of_two (λ u. place_of (unit_frame 2 u) x y ≡ y * (line / 2) + x / 2) refl refl)
      (of_four (λ u. place_of (unit_frame 4 u) x y ≡ y * (line / 4) + x / 4) refl refl refl refl)

  -- and as many rows as unit 0
  unit_rows : (n ways : ℕ) → Ways ways → (u : ℕ) → u < ways → rows_of (unit_frame ways u) n n ≡ rows_of (unit_frame ways 0) n n
  unfolding rows_of is_whole rowsHeld layout_of
  unit_rows n =
      by_ways (λ ways. (u : ℕ) → u < ways → rows_of (unit_frame ways u) n n ≡ rows_of (unit_frame ways 0) n n)
      (λ u l. refl)
      (of_two (λ u. rows_of (unit_frame 2 u) n n ≡ rows_of (unit_frame 2 0) n n) refl refl)
      (of_four (λ u. rows_of (unit_frame 4 u) n n ≡ rows_of (unit_frame 4 0) n n) refl refl refl refl)

  module _ (ways : ℕ) (pos : 0 < ways) (whole : line ≡ line / ways * ways) (x y : ℕ) where
    -- a place of the one chip, by units
    split : y * line + x ≡ (y * (line / ways) + x / ways) * ways + x % ways
    split =
        ap₂ (λ (a b : ℕ). y * a + b) whole (sym (div-add-mod' x ways))
        ∙ (sym (add_assoc (y * (line / ways * ways)) (x / ways * ways) (x % ways))
        ∙ ap (λ (a : ℕ). a + x % ways) (ap (λ (a : ℕ). a + x / ways * ways) (sym (mul_assoc y (line / ways) ways)) ∙ sym (add-mul (y * (line / ways)) (x / ways) ways)))

    at_plain : place_of (plain_frame line) x y ≡ y * line + x
    at_plain = place_plain (plain_frame line) x y refl

    at_unit : place_of (plain_frame line) x y % ways ≡ x % ways
    at_unit = ap (λ (a : ℕ). a % ways) (at_plain ∙ split) ∙ digits_mod (y * (line / ways) + x / ways) (mod-lt x pos)

    at_spot : place_of (plain_frame line) x y / ways ≡ y * (line / ways) + x / ways
    at_spot = ap (λ (a : ℕ). a / ways) (at_plain ∙ split) ∙ digits_div (y * (line / ways) + x / ways) (mod-lt x pos)

  -- ---- the units deal the one chip's pixels

  module _ (ways n n' : ℕ) (some : Ways ways) (whole : line ≡ line / ways * ways) (rows : rows_of (unit_frame ways 0) n n ≡ rows_of (plain_frame line) n' n') where
    abbrev Fit : ℕ → ℕ → Type 0
    Fit x y = in_memory (plain_frame line) (rows_of (plain_frame line) n' n') x y ≡ true

    pos : 0 < ways
    pos = ways_some ways some

    column : (u x y : ℕ) → u < ways → mine (layout_of (unit_frame ways u)) x ≡ eqb (place_of (plain_frame line) x y % ways) u
    column u x y l = unit_mine x ways some u l ∙ ap (λ (a : ℕ). eqb a u) (sym (at_unit ways pos whole x y))

    spot : (u x y : ℕ) → u < ways → place_of (unit_frame ways u) x y ≡ place_of (plain_frame line) x y / ways
    spot u x y l = unit_spot x y ways some u l ∙ sym (at_spot ways pos whole x y)

    spot_low : (x y : ℕ) → Fit x y → place_of (plain_frame line) x y / ways < n
    spot_low x y h =
        let u = place_of (plain_frame line) x y % ways in
        let l = mod-lt (place_of (plain_frame line) x y) pos in
        let k = inside_parts (plain_frame line) (rows_of (plain_frame line) n' n') x y h in
        let low = place_below (unit_frame ways u) n n x y
        (inside_of (unit_frame ways u) (rows_of (unit_frame ways u) n n) x y k.0 (subst (λ (m : ℕ). y < m) (sym (unit_rows n ways some u l ∙ rows)) k.1) (column u x y l ∙ eq-eqb u u refl)) in
        subst (λ (m : ℕ). m < n) (spot u x y l) low.0

    units_deal : Deals ways n n' (unit_frame ways) (plain_frame line) Fit
    units_deal =
        record {
          some = pos;
          column = λ u x y l h. column u x y l;
          spot = λ u x y l h. spot u x y l;
          low = spot_low;
          low' = λ x y h. (place_below (plain_frame line) n' n' x y h).0;
        }

-- ---- a word

-- what a word draws and stores
abbrev painted : Pen → List Offer → List Store → Memories → Picture
painted pen os ss m = filled pen ss (drawn pen os (picture m.i m.z 0))

painted_even : (pen : Pen) (os : List Offer) (ss : List Store) (n : ℕ) (m : Memories) → Even n m → Even n (memories (painted pen os ss m).i (painted pen os ss m).z)
painted_even pen os ss n m e = (filled_i pen ss _ ∙ drawn_i pen os _ ∙ e.0, filled_z pen ss _ ∙ drawn_z pen os _ ∙ e.1)

start_sized : (n : ℕ) (m : Memories) → Even n m → Sized n n (picture m.i m.z 0)
start_sized n m e = record { i = e.0; z = e.1 }

drawn_sized : (pen : Pen) (os : List Offer) (n : ℕ) (m : Memories) → Even n m → Sized n n (drawn pen os (picture m.i m.z 0))
drawn_sized pen os n m e = record { i = drawn_i pen os _ ∙ e.0; z = drawn_z pen os _ ∙ e.1 }

-- INIT offers nothing and stores nothing, however many rows are in use
init_offers : (rows : ℕ) (r : Registers) (w : Word) → is_init w ≡ true → chip.offers rows r w ≡ []
init_offers rows r w e = ap (figure_offers rows r) (init_quiet r w e).0 ∙ nothing_offered rows r

init_stores : (rows : ℕ) (r : Registers) (w : Word) → is_init w ≡ true → chip.stores rows r w ≡ []
init_stores rows r w e = word_unstored rows r w (init_quiet r w e).1

held_none : (k : Layout) → held_by k [] ≡ []
unfolding held_by
held_none k = refl

stores_none : (k : Layout) → stores_held_by k [] ≡ []
unfolding stores_held_by
stores_none k = refl

module _ (ways n n' : ℕ) (some : Ways ways) (r : Registers) (w : Word) (b : ℕ → Memories) (m : Memories) (even : (u : ℕ) → u < ways → Even n (b u)) (even' : Even n' m)
    (start : ReadTogether ways n n' b m)
  where
    abbrev line : ℕ
    line = r.frame.line

    abbrev unit : ℕ → Registers
    unit u = laid (unit_layout ways u) r

    abbrev one : Registers
    one = laid 0 r

    abbrev k : ℕ → Layout
    k u = layout_of (frame_of line (unit_layout ways u))

    -- each unit gets the one chip's number
    number : (u : ℕ) → u < ways → number_of chip (unit u) w (b u) ≡ number_of chip one w m
    number u l =
        ap₂ (λ (i z : ℕ). refusal_of i z (unit u) w) (even u l).0 (even u l).1
        ∙ (number_laid (unit_layout ways u) n n r w (layout_low ways some u l) ∙ number_even n n' one w)
        ∙ sym (ap₂ (λ (i z : ℕ). refusal_of i z one w) even'.0 even'.1)

    -- refused: all stays
    module _ (e : number_of chip one w m ≢ 0) where
      unit_refused : (u : ℕ) → u < ways → unit_step ways r w b u ≡ refused (number_of chip (unit u) w (b u)) (unit u) (b u)
      unit_refused u l = step_refused chip (unit u) w (b u) (λ z. e (sym (number u l) ∙ z))

      one_refused : one_step r w m ≡ refused (number_of chip one w m) one m
      one_refused = step_refused chip one w m e

      refused_together : Together ways n n' r w b m
      refused_together =
          record {
            refusal = λ u l.
                ap (λ (o : Outcome Registers Memories). o.refusal) (unit_refused u l) ∙ number u l ∙ sym (ap (λ (o : Outcome Registers Memories). o.refusal) one_refused);
            registers = λ u l.
                ap (λ (o : Outcome Registers Memories). o.registers) (unit_refused u l) ∙ sym (ap (λ (o : Outcome Registers Memories). laid (unit_layout ways u) o.registers) one_refused);
            passed =
                sum_same ways (λ u. (unit_step ways r w b u).passed) (λ u. 0) (λ u l. ap (λ (o : Outcome Registers Memories). o.passed) (unit_refused u l))
                ∙ sum_none ways ∙ sym (ap (λ (o : Outcome Registers Memories). o.passed) one_refused);
            even = λ u l. subst (λ (o : Outcome Registers Memories). Even n o.memories) (sym (unit_refused u l)) (even u l);
            even' = subst (λ (o : Outcome Registers Memories). Even n' o.memories) (sym one_refused) even';
            together = λ p h h'.
                ap (λ (o : Outcome Registers Memories). cell_in o.memories (p / ways)) (unit_refused (p % ways) (mod-lt p (ways_some ways some)))
                ∙ start p h h' ∙ sym (ap (λ (o : Outcome Registers Memories). cell_in o.memories p) one_refused);
          }

    -- accepted: the one chip's offers and stores are dealt out
    module _ (e : number_of chip one w m ≡ 0) (os : List Offer) (ss : List Store) (Fit' : ℕ → ℕ → Type 0)
        (deals : Deals ways n n' (λ u. frame_of line (unit_layout ways u)) (plain_frame line) Fit')
        (fits : (o : Offer) → Memᴰ o os → Fit' o.x o.y) (stores-fit : (s : Store) → Memᴰ s ss → Fit' s.x s.y)
        (offers-one : chip.offers (rows_in chip one m) one w ≡ os) (stores_one : chip.stores (rows_in chip one m) one w ≡ ss)
        (offers-unit : (u : ℕ) → u < ways → chip.offers (rows_in chip (unit u) (b u)) (unit u) w ≡ held_by (k u) os)
        (stores-unit : (u : ℕ) → u < ways → chip.stores (rows_in chip (unit u) (b u)) (unit u) w ≡ stores_held_by (k u) ss)
      where
        abbrev pen : ℕ → Pen
        pen u = pen_of (unit u)

        abbrev pen' : Pen
        pen' = pen_of one

        abbrev left : ℕ → Picture
        left u = painted (pen u) (held_by (k u) os) (stores_held_by (k u) ss) (b u)

        abbrev left' : Picture
        left' = painted pen' os ss m

        unit_is : (u : ℕ) → u < ways → unit_step ways r w b u ≡ accepted (record_after (unit u) w) (left u)
        unit_is u l =
            step_accepted chip (unit u) w (b u) (number u l ∙ e)
            ∙ ap₂ (λ (us : List Offer) (ts : List Store). accepted (record_after (unit u) w) (painted (pen u) us ts (b u))) (offers-unit u l) (stores-unit u l)

        one_is : one_step r w m ≡ accepted (record_after one w) left'
        one_is = step_accepted chip one w m e ∙ ap₂ (λ (us : List Offer) (ts : List Store). accepted (record_after one w) (painted pen' us ts m)) offers-one stores_one

        twins : (u : ℕ) → Twins (pen u) pen'
        twins u = pens_laid (unit_layout ways u) r

        cells : (p : ℕ) → p / ways < n → p < n' → cell_at (left (p % ways)) (p / ways) ≡ cell_at left' p
        cells p h h' =
            let u = p % ways in
            let l = mod-lt p (ways_some ways some) in
            filled_dealt ways n n' pen pen' Fit' twins deals p ss (drawn (pen u) (held_by (k u) os) (picture (b u).i (b u).z 0)) (drawn pen' os (picture m.i m.z 0))
            (drawn_sized (pen u) (held_by (k u) os) n (b u) (even u l)) (drawn_sized pen' os n' m even') stores-fit
            (drawn_dealt ways n n' pen pen' Fit' twins deals p os (picture (b u).i (b u).z 0) (picture m.i m.z 0) (start_sized n (b u) (even u l)) (start_sized n' m even') fits (start p h h'))

        count : sum_of ways (λ u. (left u).passed) ≡ left'.passed
        count =
            let same = sum_same ways (λ u. (left u).passed) (λ u. (drawn (pen u) (held_by (k u) os) (picture (b u).i (b u).z 0)).passed) (λ u l. filled_passed (pen u) (stores_held_by (k u) ss) _) in
            let all = count_dealt ways n n' pen pen' Fit' twins deals os (λ u. picture (b u).i (b u).z 0) (picture m.i m.z 0) (λ u l. start_sized n (b u) (even u l)) (start_sized n' m even') fits start in
            let one_count = filled_passed pen' ss (drawn pen' os (picture m.i m.z 0)) in
            omega (arith, same, all, one_count, sum_none ways)

        accepted_together : Together ways n n' r w b m
        accepted_together =
            record {
              refusal = λ u l. ap (λ (o : Outcome Registers Memories). o.refusal) (unit_is u l) ∙ sym (ap (λ (o : Outcome Registers Memories). o.refusal) one_is);
              registers = λ u l.
                  ap (λ (o : Outcome Registers Memories). o.registers) (unit_is u l)
                  ∙ (after_laid (unit_layout ways u) r w ∙ ap (laid (unit_layout ways u)) (sym (after_laid 0 r w)))
                  ∙ sym (ap (λ (o : Outcome Registers Memories). laid (unit_layout ways u) o.registers) one_is);
              passed =
                  sum_same ways (λ u. (unit_step ways r w b u).passed) (λ u. (left u).passed) (λ u l. ap (λ (o : Outcome Registers Memories). o.passed) (unit_is u l))
                  ∙ count ∙ sym (ap (λ (o : Outcome Registers Memories). o.passed) one_is);
              even = λ u l.
                  subst (λ (o : Outcome Registers Memories). Even n o.memories) (sym (unit_is u l)) (painted_even (pen u) (held_by (k u) os) (stores_held_by (k u) ss) n (b u) (even u l));
              even' = subst (λ (o : Outcome Registers Memories). Even n' o.memories) (sym one_is) (painted_even pen' os ss n' m even');
              together = λ p h h'.
                  ap (λ (o : Outcome Registers Memories). cell_in o.memories (p / ways)) (unit_is (p % ways) (mod-lt p (ways_some ways some)))
                  ∙ cells p h h' ∙ sym (ap (λ (o : Outcome Registers Memories). cell_in o.memories p) one_is);
            }

    -- INIT
    init_together : number_of chip one w m ≡ 0 → is_init w ≡ true → Together ways n n' r w b m
    init_together e is =
        accepted_together e [] [] (λ x y. ⊥)
        (record { some = ways_some ways some; column = λ u x y l h. absurd h; spot = λ u x y l h. absurd h; low = λ x y h. absurd h; low' = λ x y h. absurd h })
        (λ o u. Memᴰ.not-nil u) (λ s u. Memᴰ.not-nil u) (init_offers (rows_in chip one m) one w is) (init_stores (rows_in chip one m) one w is)
        (λ u l. init_offers (rows_in chip (unit u) (b u)) (unit u) w is ∙ sym (held_none (k u))) (λ u l. init_stores (rows_in chip (unit u) (b u)) (unit u) w is ∙ sym (stores_none (k u)))

    -- any other word, where as many rows are in use
    other_together : number_of chip one w m ≡ 0 → SameRows ways n n' r → Together ways n n' r w b m
    other_together e rows =
        let whole = ways_whole line (line_whole one ((accepted_when (length m.i) (length m.z) one w).0 e).sound) ways some in
        let high = rows_of (plain_frame line) n' n' in
        let here : rows_in chip one m ≡ high = ap₂ (rows_of (plain_frame line)) even'.0 even'.1 in
        let there : (u : ℕ) → u < ways → rows_in chip (unit u) (b u) ≡ high =
        λ u l. ap₂ (rows_of (frame_of line (unit_layout ways u))) (even u l).0 (even u l).1 ∙ unit_rows line n ways some u l ∙ rows in
        accepted_together e (chip.offers high one w) (chip.stores high one w) (Fit line ways n n' some whole rows) (units_deal line ways n n' some whole rows)
        (inside.at high one w) (inside.stores high one w) (ap (λ (q : ℕ). chip.offers q one w) here) (ap (λ (q : ℕ). chip.stores q one w) here)
        (λ u l. ap (λ (q : ℕ). chip.offers q (unit u) w) (there u l) ∙ offers_laid (unit_layout ways u) high r w)
        (λ u l. ap (λ (q : ℕ). chip.stores q (unit u) w) (there u l) ∙ stores_laid (unit_layout ways u) high r w)

    word_together : (is_init w ≡ false → SameRows ways n n' r) → Together ways n n' r w b m
    word_together rows = zero_or_not (number_of chip one w m) (λ e. go (is_init w) refl e) (λ e. refused_together e)
      where
        go : (t : Bool) → is_init w ≡ t → number_of chip one w m ≡ 0 → Together ways n n' r w b m
        go true is e = init_together e is
        go false is e = other_together e (rows is)

-- ---- the promises

-- the chip keeps each of its promises to the units of a board
pub units : Units
units =
    record {
      number = number_laid;
      lengths = number_even;
      next = λ k r w. after_laid k r w ∙ ap (laid k) (sym (after_laid 0 r w));
      offers = offers_laid;
      stores = stores_laid;
      dry = word_unstored;
      inside = λ rows r w o u. let k = inside_parts r.frame rows o.x o.y (inside.at rows r w o u) in (k.0, k.1);
      whole = λ ni nz r w e. line_whole r ((accepted_when ni nz r w).0 e).sound;
      count = count_low;
      word = λ ways n n' some r w b m even even' rows start. word_together ways n n' some r w b m even even' start rows;
    }
