-- How a word is split: of 20 bits, the command is told whole; of more, no command is known. Assumes nothing.
use Rattle.std.proofs.Common.{◌≡◌, ℕ, ◌/◌, ◌%◌, ◌^◌, ◌<◌, ◌≤◌, arith}
use Rattle.std.proofs.Math.ListN.{get_or-eq_default}
use Rattle.registers.specs.declared.word.Word.TheVariants.{Unknown}
use Rattle.registers.specs.Word.{commands, decode, word_of}

-- a word of 20 bits has a command below 256, so that nothing of it is lost
pub command_whole : (w : ℕ) → w < 2 ^ 20 → w / 65536 % 256 ≡ w / 65536
command_whole w h = omega (arith, h)

-- the parts of a word of 20 bits are decoded to the word
pub parts_decoded : {w command d : ℕ} → w < 2 ^ 20 → (command ≡ w / 65536 % 256) × (d ≡ w % 65536) → decode command d ≡ word_of w
unfolding word_of
parts_decoded {w} h split = rw (split.0, split.1, command_whole w h)

-- a word of more than 20 bits has a command above F hex, and none of those is known
pub large_unknown : (w : ℕ) → 2 ^ 20 ≤ w → word_of w ≡ Unknown
unfolding word_of decode
large_unknown w h = get_or-eq_default (commands (w % 65536)) Unknown (omega (arith, h))
