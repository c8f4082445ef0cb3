-- One turn of the loop over bytes, as the code holds the bits of a word that has not come whole: a number, and how many they are. Assumes
-- nothing.
use Rattle.std.proofs.Common.{◌≡◌, ℕ, ◌+◌, ◌-◌, ◌*◌, ◌/◌, ◌%◌, ◌^◌, ◌<◌, ◌≤◌, true, false, ◌≢◌, List, length, get_or, drop, sym, ap, ◌∙◌, mod-lt, arith, pow_pos}
use Rattle.stream.specs.Format.{bits}
use Rattle.registers.specs.declared.Registers.{Registers}
use Rattle.machine.specs.Run.{Ran}
use Rattle.machine.specs.Machine.{Memories}
use Rattle.instalments.specs.declared.Intake.{Intake}
use Rattle.instalments.specs.Instalments.{Taking, so_far, taking, is_closed, is_sound, word_in, poured, bytes_in}
use Rattle.instalments.proofs.Rows.{byte_fits}
use Rattle.instalments.proofs.Bytes.{closed_refused, open_before, open_parts, byte_taken, held_of, pour_short, pour_word, pour_refused, turn, turn_none, bytes_closed}
use Rattle.instalments.proofs.Sound.{open_holds}

-- having taken k bytes: no word was refused, fewer bits are held than a word has, and the bytes that are left come to what all come to
pub record Turned (bytes : List ℕ) (t : Taking) (a : Ran Registers Memories) (held count k : ℕ) : Type 0 where
  pub goes : a.refusal ≡ 0
  pub few : count < 20
  pub fits : held < 2 ^ count
  pub same : bytes_in (held_of a held count) (drop k bytes) ≡ bytes_in t bytes

-- before the first
pub turned_first : (bytes : List ℕ) (s : Intake) (m : Memories) → is_sound s ≡ true → is_closed s.refusal s.over ≡ false
    → Turned bytes (taking s m) (so_far s m) s.held s.count 0
turned_first bytes s m sound opened =
    let p = open_holds s sound opened in
    let q = open_parts s.refusal s.over opened in
    record {
      goes = q.0;
      few = p.0;
      fits = p.2;
      same = ap (λ (over : ℕ). bytes_in (record { so = so_far s m; held = s.held; count = s.count; over = over }) bytes) (sym q.1);
    }

module _ {bytes : List ℕ} {t : Taking} {a : Ran Registers Memories} {held count k : ℕ} (h : Turned bytes t a held count k) where
  -- after the last
  pub turned_last : length bytes ≤ k → held_of a held count ≡ bytes_in t bytes
  turned_last e = sym (turn_none bytes k e (held_of a held count)) ∙ h.same

  module _ (left : k < length bytes) (byte : get_or bytes k 0 < 256) where
    low : held * 256 + get_or bytes k 0 < 2 ^ (count + 8)
    low = byte_fits count held (get_or bytes k 0) byte h.fits

    -- what the byte comes to, and those behind it
    onward : {u : Taking} → u ≡ poured a (bits (count + 8) (held * 256 + get_or bytes k 0)) → bytes_in u (drop (k + 1) bytes) ≡ bytes_in t bytes
    onward e =
        let here = byte_taken (held_of a held count) (get_or bytes k 0) byte (open_before a.refusal h.goes) in
        ap (λ (w : Taking). bytes_in w (drop (k + 1) bytes)) (e ∙ here) ∙ sym (turn bytes k left (held_of a held count)) ∙ h.same

    -- too few for a word
    pub turned_short : count + 8 < 20 → Turned bytes t a (held * 256 + get_or bytes k 0) (count + 8) (k + 1)
    turned_short e = record { goes = h.goes; few = e; fits = low; same = onward (pour_short a (count + 8) (held * 256 + get_or bytes k 0) low h.goes e) }

    module _ (enough : 20 ≤ count + 8) {b : Ran Registers Memories} (told : b ≡ word_in a ((held * 256 + get_or bytes k 0) / 2 ^ (count + 8 - 20))) where
      -- a word that is accepted
      pub turned_word : b.refusal ≡ 0 → Turned bytes t b ((held * 256 + get_or bytes k 0) % 2 ^ (count + 8 - 20)) (count + 8 - 20) (k + 1)
      turned_word e =
          record {
            goes = e;
            few = omega (arith, h.few);
            fits = mod-lt (held * 256 + get_or bytes k 0) (pow_pos (count + 8 - 20));
            same = onward (pour_word a (count + 8) (held * 256 + get_or bytes k 0) low enough told e);
          }

      -- one that is refused ends it
      pub turned_refused : b.refusal ≢ 0 → held_of b 0 0 ≡ bytes_in t bytes
      turned_refused e =
          sym (bytes_closed (drop (k + 1) bytes) (held_of b 0 0) (closed_refused b.refusal 0 e))
          ∙ onward (pour_refused a (count + 8) (held * 256 + get_or bytes k 0) low enough told e)
