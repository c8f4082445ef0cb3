-- `page::Reached::add` meets its contract: the lines of a recording, and its sum. Assumes nothing.
use mathlib.Core.Path.{sym, subst}
use Rattle.tally.specs.Overdraw.{Entered}
use Rattle.tally.specs.Tally.{EachWithin}
use Rattle.tally.proofs.Overdraw.{stream_each}
use Rattle.overdraw.proofs.Coming.{one_more}
use Rattle.overdraw.proofs.page.Reached.add.Goals as goal

pub put_entry-requires-clause-each_within : goal.put_entry-requires-clause-each_within
put_entry-requires-clause-each_within c = subst (λ (e : Entered). EachWithin 3276 e.tally) (sym c.enter-entry.ensures) (stream_each _)

pub returns : goal.returns
returns c =
    one_more c.args.self _ c.requires c.name_of.ensures c.enter-entry.ensures c.put_entry.ensures c.with.ensures
