-- `digits::value` meets its contract: one digit more, and the end. Assumes nothing.
use Rattle.std.proofs.Common.{◌≡◌, ◌∙◌, sym, arith, length}
use lib.Seq.{drop-length}
use Rattle.console.proofs.Arguments.{value_more, value_end}
use Rattle.console.proofs.digits.value.Goals as goal

pub loop-byte-preserved : goal.loop-byte-preserved
loop-byte-preserved c = record {
  few = omega (arith, c.with_digit-n.ensures);
  told = value_more c.args.arg.now c.args.most c.loop-byte.n c.loop-byte.byte-index (omega arith) c.with_digit-n.ensures ∙ c.loop-byte.invariant.told;
}

pub returns : goal.returns
returns c =
    let all : c.loop-byte.byte-index ≡ length c.args.arg.now = omega arith in
    sym (value_end c.loop-byte.n c.args.most c.loop-byte.invariant.few) ∙ rw (all, drop-length c.args.arg.now) at c.loop-byte.invariant.told
