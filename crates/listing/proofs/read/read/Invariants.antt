-- `read::read` meets its contract. The invariant of its loop: reading on over the bytes that are left comes to what reading the whole text
-- comes to. Assumes nothing.
use Rattle.std.proofs.Common.{◌≡◌, drop}
use Rattle.listing.specs.Reading.{reading, read_on}
use Rattle.listing.proofs.read.read.Given as goal

abbrev pub invariant-loop-b : goal.invariant-loop-b
invariant-loop-b l = read_on (reading l.reader l.words) (drop l.b-index l.text) ≡ read_on (reading l.initial.reader l.initial.words) l.text
