-- Rows in use of a board and of one chip that has as many places as its units together: always as many. Assumes nothing.
use Rattle.std.proofs.Common.{◌≡◌, ℕ, ◌*◌, ◌/◌, ◌%◌, ◌<◌, min, Bool, true, false, cond, not, ◌&&◌, eqb, length, sym, refl, ap, ◌∙◌, subst, inl, inr, mul_comm, arith, eq-eqb}
use native.Mathlib.Nat.{div-div-eq-div-mul, div-eq_of_eq-mul_left}
use Rattle.picture.specs.Limits.{most_rows}
use Rattle.picture.specs.Place.{frame_of, plain_frame, layout_of, is_whole, rows_in, rows_of}
use Rattle.registers.specs.declared.Registers.{Registers}
use Rattle.registers.specs.declared.word.Word.{Word}
use Rattle.registers.specs.Lines.{line_unit}
use Rattle.machine.specs.Machine.{Memories}
use Rattle.chip.specs.Units.{Ways, SameRows, Units}
use Rattle.board.specs.Request.{RowsAgree}

same_min : (n : ℕ) → min n n ≡ n
same_min n = omega arith

parted : (ways line n : ℕ) → 0 < ways → line ≡ line / ways * ways → n / (line / ways) ≡ n * ways / line
parted ways line n some whole =
    ap (λ (a : ℕ). a / (line / ways)) (sym (div-eq_of_eq-mul_left {k = n} some refl))
    ∙ div-div-eq-div-mul (n * ways) ways (line / ways)
    ∙ ap (λ (a : ℕ). n * ways / a) (mul_comm ways (line / ways) ∙ sym whole)

-- tests that hold fall away
held_away : (b : Bool) (x : ℕ) → cond (not b && true && true) x 0 ≡ cond (not b) x 0
held_away true x = refl
held_away false x = refl

-- of two units
rows_two : (line n : ℕ) → line % line_unit ≡ 0 → rows_of (frame_of line 2) n n ≡ rows_of (plain_frame line) (n * 2) (n * 2)
unfolding rows_of is_whole rows_in layout_of
rows_two line n h =
    let even : line % 2 ≡ 0 = omega arith in
    let whole : line ≡ line / 2 * 2 = omega arith in
    rw (eq-eqb (line % 2) 0 even, same_min n, same_min (n * 2), parted 2 line n (omega arith) whole) (held_away (eqb line 0) (min (n * 2 / line) most_rows))

-- of four
rows_four : (line n : ℕ) → line % line_unit ≡ 0 → rows_of (frame_of line 4) n n ≡ rows_of (plain_frame line) (n * 4) (n * 4)
unfolding rows_of is_whole rows_in layout_of
rows_four line n h =
    let even : line % 4 ≡ 0 = omega arith in
    let whole : line ≡ line / 4 * 4 = omega arith in
    rw (eq-eqb (line % 4) 0 even, same_min n, same_min (n * 4), parted 4 line n (omega arith) whole) (held_away (eqb line 0) (min (n * 4 / line) most_rows))

-- whatever the line length is that a record may have
pub rows_natural : (units n : ℕ) → Ways units → (r : Registers) → r.frame.line % line_unit ≡ 0 → SameRows units n (n * units) r
rows_natural units n (inl e) r h =
    let once : n ≡ n * 1 = omega arith in
    subst (λ (k : ℕ). SameRows k n (n * k) r) (sym e) (ap (λ (k : ℕ). rows_of (plain_frame r.frame.line) k k) once)
rows_natural units n (inr (inl e)) r h = subst (λ (k : ℕ). SameRows k n (n * k) r) (sym e) (rows_two r.frame.line n h)
rows_natural units n (inr (inr e)) r h = subst (λ (k : ℕ). SameRows k n (n * k) r) (sym e) (rows_four r.frame.line n h)

-- an accepted word finds such a line length
pub always_agree : Units → (units n : ℕ) → Ways units → (r : Registers) (w : Word) (m : Memories) → RowsAgree units n (n * units) r w m
always_agree laws units n ways r w m e other = rows_natural units n ways r (laws.whole (length m.i) (length m.z) r w e)
