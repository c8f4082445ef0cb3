-- `say::say_dropped` is safe: a line has 25 bytes before its end. Assumes nothing.
use Rattle.std.proofs.Common.{sym, arith}
use lib.Seq.{length-take-le}
use Rattle.mend.proofs.say.say_dropped.Goals as goal

pub slice_bounds-text-end : goal.slice_bounds-text-end
slice_bounds-text-end g c = sym (length-take-le 25 _ (omega (arith, c.list.auto.out)))
