-- `write::drawn` meets its contract: the memories are fresh. Assumes nothing.
use mathlib.Core.Path.{ap, ◌∙◌}
use Rattle.machine.specs.Machine.{Memories}
use Rattle.registers.specs.Record.{reset_of}
use Rattle.chip.specs.Stream.{running}
use Rattle.chip.specs.Fresh.{fresh_run}
use Rattle.show.proofs.write.drawn.Goals as goal

pub returns : goal.returns
unfolding fresh_run
returns c =
    let bytes = c.args.bytes.now in
    c.run.ensures ∙ ap (λ (m : Memories). running reset_of bytes m) c.requires
