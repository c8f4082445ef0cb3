-- What the door sends on is what the definitions say of the decoded word; and what a board may be. Assumes nothing.
use Rattle.std.proofs.Common.{◌≡◌, ℕ, ◌/◌, ◌<◌, ◌≤◌, Bool, true, false, cond, ◌&&◌, ◌||◌, T, eqb, ltb, sym, refl, subst, inl, inr, true≢false, arith, ltb→lt, ne_eqb, eqb-true}
use lib.ListN.{get_or-eq_default}
use Rattle.registers.specs.declared.word.Word.{Word}
use Rattle.registers.specs.declared.word.Word.TheVariants.{Unmodelled, Unknown}
use Rattle.registers.specs.Word.{commands, decode}
use Rattle.refusals.specs.Bounds.{largest_layout}
use Rattle.registers.proofs.Table.{everywhere}
use Rattle.chip.specs.Units.{Ways, unit_layout}
use Rattle.board.specs.Door.{is_board, is_several, solo_code, solo_word, is_transfer, unit_word, command_of, data_of}

-- ---- words

module _ (units d : ℕ) where
  -- what is sent on, on several units or not
  abbrev sent : Bool → ℕ → Word
  sent several c = decode (cond (several && (eqb c 0 || eqb c 9)) 10 c) (data_of units c d)

  abbrev given : Bool → Word → Word
  given several w = cond (several && is_transfer w) Unmodelled (solo_word units w)

  past : (several : Bool) (c : ℕ) → 16 ≤ c → sent several c ≡ given several Unknown
  unfolding decode data_of
  past several c h =
      let differs : (k : ℕ) → T (ltb k 16) → eqb c k ≡ false = λ k l. ne_eqb c k (λ e. absurd (omega (arith, h, ltb→lt k 16 l, e))) in
      rw (differs 0 tt, differs 9 tt, differs 15 tt) (go several)
    where
      go : (b : Bool) → decode (cond (b && false) 10 c) d ≡ cond (b && false) Unmodelled Unknown
      go true = get_or-eq_default (commands d) Unknown h
      go false = get_or-eq_default (commands d) Unknown h

  each : (several : Bool) (c : ℕ) → sent several c ≡ given several (decode c d)
  unfolding decode data_of
  each true =
      everywhere (λ c w. sent true c ≡ given true w) Unknown (commands d)
      (refl, (refl, (refl, (refl, (refl, (refl, (refl, (refl, (refl, (refl, (refl, (refl, (refl, (refl, (refl, (refl, tt)))))))))))))))) (past true)
  each false =
      everywhere (λ c w. sent false c ≡ given false w) Unknown (commands d)
      (refl, (refl, (refl, (refl, (refl, (refl, (refl, (refl, (refl, (refl, (refl, (refl, (refl, (refl, (refl, (refl, tt)))))))))))))))) (past false)

  -- the command and the data that are sent on are the word that each unit is given
  pub sent_word : (c : ℕ) → decode (command_of units c) (data_of units c d) ≡ unit_word units (decode c d)
  unfolding command_of unit_word
  sent_word c = each (is_several units) c

  -- the data alone makes of a word what one chip is given
  pub solo_data_word : (c : ℕ) → decode c (data_of units c d) ≡ solo_word units (decode c d)
  solo_data_word c = each false c

-- a single chip's code has two bits
pub code_low : (units code : ℕ) → solo_code units code ≤ 3
unfolding solo_code
code_low units code = go (eqb code (units / 2))
  where
    go : (b : Bool) → cond b 0 3 ≤ 3
    go true = omega arith
    go false = omega arith

-- as it is told
pub code_told : (units code : ℕ) {k : ℕ} → k ≡ solo_code units code → k ≤ 3
code_told units code e = subst (λ (n : ℕ). n ≤ 3) (sym e) (code_low units code)

-- ---- boards

-- a board has one, two or four units
pub board_ways : (units : ℕ) → is_board units ≡ true → Ways units
unfolding is_board
board_ways units e = one (eqb units 1) (eqb units 2) (eqb units 4) refl refl refl e
  where
    one : (a b c : Bool) → eqb units 1 ≡ a → eqb units 2 ≡ b → eqb units 4 ≡ c → a || b || c ≡ true → Ways units
    one true b c p q s h = inl (eqb-true units 1 p)
    one false true c p q s h = inr (inl (eqb-true units 2 q))
    one false false true p q s h = inr (inr (eqb-true units 4 s))
    one false false false p q s h = absurd (true≢false (sym h))

-- one, two or four units make a board
pub ways_board : (units : ℕ) → Ways units → is_board units ≡ true
unfolding is_board
ways_board units (inl e) = rw e
ways_board units (inr (inl e)) = rw e
ways_board units (inr (inr e)) = rw e

-- so four at most
pub ways_low : (units : ℕ) → Ways units → units < 5
ways_low units (inl e) = omega arith
ways_low units (inr (inl e)) = omega arith
ways_low units (inr (inr e)) = omega arith

-- a board of one, two or four units has at least one
pub ways_some : (units : ℕ) → Ways units → 0 < units
ways_some units (inl e) = omega arith
ways_some units (inr (inl e)) = omega arith
ways_some units (inr (inr e)) = omega arith

-- and the first unit's layout is one of eight
pub first_layout : (units : ℕ) → Ways units → unit_layout units 0 ≤ largest_layout
first_layout units (inl e) = rw e (omega arith)
first_layout units (inr (inl e)) = rw e (omega arith)
first_layout units (inr (inr e)) = rw e (omega arith)
