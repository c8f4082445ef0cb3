-- The program prints what the drawing program prints. Assumes nothing.
use mathlib.Core.Path.{◌≡◌, refl, sym, ap, ◌∙◌}
use mathlib.Core.List.{List, flatten}
use Prim.Native.Nat.{ℕ, ◌^◌, ◌<◌}
use lib.ListN.{length}
use Rattle.registers.specs.Record.{reset_of}
use Rattle.stream.specs.Calls.{checked}
use Rattle.machine.specs.Machine.{memories}
use Rattle.chip.specs.Stream.{running}
use Rattle.chip.specs.Fresh.{fresh, fresh_run}
use Rattle.chip.specs.Demands.{Ended}
use Rattle.instalments.specs.Instalments.{Taking, taking}
use Rattle.instalments.specs.Delivered.{Delivered}
use Rattle.instalments.proofs.Request3.{request_3}
use Rattle.printing.specs.Printing.{text_of, stream_text}
use Rattle.receive.specs.Receive.{received}

-- the one outcome of a whole stream
abbrev whole : (bytes i z : List ℕ) → Ended reset_of bytes i z
whole bytes i z =
    let a = running reset_of bytes (memories i z) in
    record {
      refusal = a.refusal;
      index = a.index;
      sum = a.sum;
      registers = a.registers;
      i_left = a.memories.i;
      z_left = a.memories.z;
      promise = refl;
    }

-- a stream of fewer than 2 ^ 64 bytes that 11 and 12 don't touch, cut anywhere: the text is that of the whole stream
pub as_drawn : (parts : List (List ℕ)) (d : Delivered parts (fresh 8192).i (fresh 8192).z) → length (flatten parts) < 2 ^ 64 → checked (flatten parts) 0 ≡ 0
    → received (taking d.last (memories d.i_left d.z_left)) ≡ stream_text (flatten parts)
unfolding received stream_text fresh_run
as_drawn parts d short good =
    ap text_of
    (ap (λ (t : Taking). t.so) (sym d.ends)
    ∙ (request_3.cut parts (fresh 8192).i (fresh 8192).z d).at_once short good (whole (flatten parts) (fresh 8192).i (fresh 8192).z))
