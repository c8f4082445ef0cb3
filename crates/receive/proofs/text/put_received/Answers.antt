-- `text::put_received` meets its contract: the text is that of what the end tells. Assumes nothing.
use mathlib.Core.Path.{ap, subst}
use mathlib.Core.List.{List}
use Prim.Native.Nat.{ℕ}
use Rattle.report.specs.Calls.{Stands}
use Rattle.instalments.specs.Instalments.{Taking}
use Rattle.printing.specs.Printing.{text_of}
use Rattle.receive.specs.Receive.{received}
use Rattle.receive.proofs.text.put_received.Goals as goal

pub returns : goal.returns
unfolding received text_of
returns c =
    subst (λ (text : List ℕ). Stands text c.args.out.now c.put_report.new.out c.put_report.result) (ap (λ (t : Taking). text_of t.so) c.dextolumen_finish-end.ensures) c.put_report.ensures
