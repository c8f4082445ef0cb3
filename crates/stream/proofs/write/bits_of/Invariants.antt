-- The invariant of the loop of `write::bits_of`: the bits set so far, with those of the words from k on, are those of all words. Assumes nothing.
use Rattle.std.proofs.Common.{◌≡◌, fold, bit_or}
use lib.ListN.{drop}
use Rattle.stream.proofs.write.bits_of.Given as goal

abbrev pub invariant-loop-k : goal.invariant-loop-k
invariant-loop-k l = fold bit_or l.set (drop l.k l.words) ≡ fold bit_or 0 l.words
