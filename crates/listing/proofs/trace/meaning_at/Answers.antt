-- `trace::meaning_at` meets its contract: the table has the meanings, each in twelve columns. Assumes nothing.
use Rattle.std.proofs.Common.{refl}
use Rattle.listing.specs.Trace.{meanings}
use Rattle.listing.specs.declared.trace.TheConstants.{MEANINGS}
use Rattle.listing.proofs.Tables.{listed}
use Rattle.listing.proofs.trace.meaning_at.Goals as goal

pub returns : goal.returns
unfolding meanings
returns c = listed 12 32 MEANINGS refl refl c.args.row c.requires
