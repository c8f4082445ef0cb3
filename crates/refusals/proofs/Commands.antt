-- What the table of numbers asks of a word, told by its command and data, as document 01 tells it. All questions are answered together, for
-- the sixteen commands one by one and for those above. Assumes nothing.
use mathlib.Core.Path.{◌≡◌, refl, ap}
use mathlib.Core.Bool.{false, ◌&&◌, ◌||◌}
use Prim.Native.Nat.{ℕ, ◌<◌, ◌≤◌}
use native.Mathlib.Omega.{arith}
use lib.Dec.{T, ltb, eqb, ltb→lt}
use borrow.Author.Tests.{lt-ltb, ne_eqb}
use Rattle.registers.specs.declared.word.Word.TheVariants.{Unknown}
use Rattle.registers.specs.Word.{commands, decode}
use Rattle.refusals.specs.Refusal.{Asked, asked, asked_of, is_init, is_parm, is_unknown, is_reserved, is_unmodelled, is_above, is_ptrn}
use Rattle.registers.proofs.Table.{everywhere}

module _ (d : ℕ) where
  abbrev of_command : ℕ → Asked
  of_command c = asked (ltb 15 c) (eqb c 7 || eqb c 12) (eqb c 10 || (eqb c 14 && eqb d 11)) (eqb c 14 && ltb 12 d) (eqb c 15) (eqb c 13) (eqb c 0)

  past : (c : ℕ) → 16 ≤ c → asked_of Unknown ≡ of_command c
  past c h =
      let differs : (k : ℕ) → T (ltb k 16) → eqb c k ≡ false = λ k l. ne_eqb c k (λ e. absurd (omega (arith, h, ltb→lt k 16 l, e))) in
      let up : 15 < c = omega (arith, h) in
      rw (lt-ltb 15 c up, differs 0 tt, differs 7 tt, differs 10 tt, differs 12 tt, differs 13 tt, differs 14 tt, differs 15 tt)

  told : (c : ℕ) → asked_of (decode c d) ≡ of_command c
  unfolding decode
  told =
      everywhere (λ c w. asked_of w ≡ of_command c) Unknown (commands d)
      (refl, (refl, (refl, (refl, (refl, (refl, (refl, (refl, (refl, (refl, (refl, (refl, (refl, (refl, (refl, (refl, tt)))))))))))))))) past

module _ (c d : ℕ) where
  -- above 15 no command is known
  pub decode_unknown : is_unknown (decode c d) ≡ ltb 15 c
  decode_unknown = ap (λ (a : Asked). a.unknown) (told d c)

  -- 7 and C hex are reserved
  pub decode_reserved : is_reserved (decode c d) ≡ eqb c 7 || eqb c 12
  decode_reserved = ap (λ (a : Asked). a.reserved) (told d c)

  -- F hex is INIT
  pub decode_init : is_init (decode c d) ≡ eqb c 15
  decode_init = ap (λ (a : Asked). a.init) (told d c)

  -- D hex is PARM
  pub decode_parm : is_parm (decode c d) ≡ eqb c 13
  decode_parm = ap (λ (a : Asked). a.parm) (told d c)

  -- A hex is not modelled, nor is AUX 11
  pub decode_unmodelled : is_unmodelled (decode c d) ≡ eqb c 10 || (eqb c 14 && eqb d 11)
  decode_unmodelled = ap (λ (a : Asked). a.unmodelled) (told d c)

  -- AUX with data above 12 is AUX above 12
  pub decode_above : is_above (decode c d) ≡ eqb c 14 && ltb 12 d
  decode_above = ap (λ (a : Asked). a.above) (told d c)

  -- 0 is PTRN
  pub decode_ptrn : is_ptrn (decode c d) ≡ eqb c 0
  decode_ptrn = ap (λ (a : Asked). a.ptrn) (told d c)
