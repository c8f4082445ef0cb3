-- `entries::dextolumen_unpack` meets its contract: what it encodes is what `read::unpack` answers. Assumes nothing.
use Rattle.std.proofs.Common.{arith}
use Rattle.stream.proofs.Calls.{encoded_told}
use Rattle.stream.proofs.entries.dextolumen_unpack.Goals as goal

pub returns : goal.returns
returns c = encoded_told c.unpack.result c.unpack.ensures (grind arith)
