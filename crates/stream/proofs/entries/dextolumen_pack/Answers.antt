-- `entries::dextolumen_pack` meets its contract: what it encodes is what `write::pack` answers. Assumes nothing.
use Rattle.std.proofs.Common.{arith}
use Rattle.stream.proofs.Calls.{encoded_told}
use Rattle.stream.proofs.entries.dextolumen_pack.Goals as goal

pub returns : goal.returns
returns c = encoded_told c.pack.result c.pack.ensures (grind arith)
