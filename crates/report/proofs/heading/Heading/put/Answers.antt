-- `heading::Heading::put` meets its contract: three named numbers, one behind the other. Assumes nothing.
use Rattle.std.proofs.Common.{arith}
use Rattle.report.specs.Text.{heading}
use Rattle.report.proofs.Lengths.{heading_parts}
use Rattle.report.proofs.Putting.{add_after, room_after}
use Rattle.report.proofs.heading.Heading.put.Goals as goal

pub put_named-requires : goal.put_named-requires
put_named-requires c = let a = c.args.self in omega (arith, heading_parts a.words a.refusal a.passed)

pub put_named-requires-2 : goal.put_named-requires-2
put_named-requires-2 c = let a = c.args.self in room_after _ c.put_named.ensures (omega (arith, heading_parts a.words a.refusal a.passed))

pub put_named-requires-3 : goal.put_named-requires-3
put_named-requires-3 c =
    let a = c.args.self in
    room_after _ c.put_named-2.ensures (room_after _ c.put_named.ensures (omega (arith, heading_parts a.words a.refusal a.passed)))

pub returns : goal.returns
unfolding heading
returns c = add_after (add_after c.put_named.ensures c.put_named-2.ensures) c.put_named-3.ensures
