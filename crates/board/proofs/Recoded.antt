-- Words and packed streams with the chips code that one chip takes. Assumes nothing.
use Rattle.std.proofs.Common.{◌≡◌, ℕ, ◌/◌, ◌%◌, ◌^◌, ◌<◌, Bool, true, false, cond, eqb, List, [], ◌∷◌, map, sym, refl, ap, ◌∙◌, ap₂, arith}
use Rattle.stream.specs.Format.{unpack_of}
use Rattle.stream.specs.Calls.{checked}
use Rattle.stream.proofs.Bits.{Fits, none, more}
use Rattle.stream.proofs.Round.{unpack_fits, unpack_pack, packed_good}
use Rattle.registers.specs.Word.{decode, word_of}
use Rattle.board.specs.Door.{solo_data, solo_word, data_of}
use Rattle.board.specs.Request.{solo_number, solo_words, solo_bytes, SoloStream}
use Rattle.board.proofs.Sent.{code_low, solo_data_word}

-- ---- numbers

-- the data keeps to 16 bits
solo_data_low : (units d : ℕ) → d < 65536 → solo_data units d < 65536
unfolding solo_data
solo_data_low units d h = let low = code_low units (d / 64 % 4) in omega (arith, low, h)

data_low : (units c d : ℕ) → d < 65536 → data_of units c d < 65536
unfolding data_of
data_low units c d h = go (eqb c 15)
  where
    go : (b : Bool) → cond b (solo_data units d) d < 65536
    go true = solo_data_low units d h
    go false = h

module _ (units n : ℕ) where
  with_data : data_of units (n / 65536) (n % 65536) < 65536
  with_data = data_low units (n / 65536) (n % 65536) (omega arith)

  same_command : solo_number units n / 65536 ≡ n / 65536
  same_command = let low = with_data in omega (arith, low)

  new_data : solo_number units n % 65536 ≡ data_of units (n / 65536) (n % 65536)
  new_data = let low = with_data in omega (arith, low)

  -- the word that it is
  pub solo_number_lem : word_of (solo_number units n) ≡ solo_word units (word_of n)
  unfolding word_of
  solo_number_lem = ap₂ decode same_command new_data ∙ solo_data_word units (n % 65536) (n / 65536)

  solo_low : n < 2 ^ 20 → solo_number units n < 2 ^ 20
  solo_low h = let low = with_data in omega (arith, low, h)

-- ---- lists

-- those of some numbers
pub solo_numbers : (units : ℕ) (ns : List ℕ) → map word_of (map (solo_number units) ns) ≡ solo_words units (map word_of ns)
solo_numbers units [] = refl
solo_numbers units (n ∷ ns) = ap₂ ◌∷◌ (solo_number_lem units n) (solo_numbers units ns)

solo_fits : (units : ℕ) {ns : List ℕ} → Fits 20 ns → Fits 20 (map (solo_number units) ns)
solo_fits units none = none
solo_fits units (more h f) = more (solo_low units _ h) (solo_fits units f)

-- a good stream has one beside it for one chip
pub recoded : (units : ℕ) (bytes : List ℕ) → checked bytes 0 ≡ 0 → SoloStream units bytes (solo_bytes units bytes)
recoded units bytes good =
    record {
      checks = packed_good (map (solo_number units) (unpack_of bytes)) ∙ sym good;
      words = ap (map word_of) (unpack_pack (solo_fits units (unpack_fits bytes))) ∙ solo_numbers units (unpack_of bytes);
    }
