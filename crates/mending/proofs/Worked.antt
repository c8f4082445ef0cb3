-- A worked example: INIT, a reserved command, I, and a closing half byte that is not 0. The reserved command is dropped with number 4, and the
-- half byte cleared. Assumes nothing.
use mathlib.Core.Path.{◌≡◌, refl, ap, ◌∙◌}
use mathlib.Core.List.{List, [], ◌∷◌}
use Prim.Native.Nat.{ℕ}
use Rattle.stream.specs.Format.{bits, number, joined, cut, whole, closing, unpack_of, pack_of}
use Rattle.stream.specs.Calls.{bad_tail}
use Rattle.registers.specs.Lines.{line_of}
use Rattle.refusals.specs.Bounds.{in_bounds, frame_fits, modes_fit, window_fits, figure_fits, vertex_fits, parked_fits, region_fits}
use Rattle.registers.specs.Subcommand.{subcommand_of}
use Rattle.registers.specs.Record.{settings, reset_of}
use Rattle.registers.specs.Word.{decode, word_of}
use Rattle.refusals.specs.Allowed.{init_allowed}
use Rattle.registers.specs.Next.{record_after}
use Rattle.refusals.specs.Refusal.{refusal_of, next}
use Rattle.mending.specs.Mend.{kept_in, dropped, dropped_in, kept_of, mended_of, dropped_of, cut_of, cleared_of}

-- the recording: F0000, 70000 and 10005 hex, and then 9
pub damaged : List ℕ
damaged = 0xF0 ∷ 0x00 ∷ 0x07 ∷ 0x00 ∷ 0x00 ∷ 0x10 ∷ 0x00 ∷ 0x59 ∷ []

words : unpack_of damaged ≡ 0xF0000 ∷ 0x70000 ∷ 0x10005 ∷ []
unfolding damaged unpack_of whole joined cut bits number
words = refl

kept : kept_of damaged 0 ≡ 0xF0000 ∷ 0x10005 ∷ []
unfolding kept_in word_of decode refusal_of next record_after init_allowed line_of settings in_bounds frame_fits modes_fit window_fits figure_fits vertex_fits parked_fits region_fits subcommand_of
kept = ap (kept_in 0 reset_of) words ∙ refl

-- the new stream has the first and the last word
pub worked_stream : mended_of damaged 0 ≡ 0xF0 ∷ 0x00 ∷ 0x01 ∷ 0x00 ∷ 0x05 ∷ []
unfolding pack_of whole joined cut bits number closing
worked_stream = ap pack_of kept ∙ refl

-- the word with index 1 is on the list
pub worked_list : dropped_of damaged 0 ≡ dropped 1 4 ∷ []
unfolding dropped_in word_of decode refusal_of next record_after init_allowed line_of settings in_bounds frame_fits modes_fit window_fits figure_fits vertex_fits parked_fits region_fits subcommand_of
worked_list = ap (dropped_in 0 0 reset_of) words ∙ refl

-- no bits are cut, and the half byte is cleared
pub worked_end : (cut_of damaged ≡ 0) × (cleared_of damaged ≡ 1)
unfolding damaged cut_of cleared_of bad_tail
worked_end = (refl, refl)
