-- `Ascii` is displayed as its contract says. The invariant of its loop: what is written is the characters of the bytes so far. Assumes nothing.
use Rattle.std.proofs.Common.{encode_utf8_all, take}
use Rattle.std.specs.Fmt.{HasWritten, IsPlainFormatter}
use Rattle.console.proofs.say.AsciiDisplay.fmt.Given as goal

abbrev pub invariant-loop-byte : goal.invariant-loop-byte
invariant-loop-byte g l =
    IsPlainFormatter l.initial.f → HasWritten g.W.Write.write_str_gives l.initial.f (encode_utf8_all (take l.byte-index l.byte-items)) l.f
