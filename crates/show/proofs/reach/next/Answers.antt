-- `reach::next` meets its contract: each kind of word has its arm. Assumes nothing.
use mathlib.Core.Path.{◌≡◌}
use mathlib.Core.Logic.{◌⊎◌, inl, inr}
use Rattle.registers.specs.declared.Registers.{Registers}
use Rattle.registers.specs.declared.word.Word.{Word}
use Rattle.registers.specs.declared.word.Word.TheVariants.{Reserved, Unmodelled, Unknown}
use Rattle.registers.specs.Next.{record_after}
use Rattle.show.proofs.reach.next.Goals as goal

-- words that are refused leave the registers
refused_stays : (r : Registers) {w : Word} → (w ≡ Reserved) ⊎ ((w ≡ Unmodelled) ⊎ (w ≡ Unknown)) → r ≡ record_after r w
unfolding record_after
refused_stays r (inl e) = rw e
refused_stays r (inr (inl e)) = rw e
refused_stays r (inr (inr e)) = rw e

pub returns-in-Init : goal.returns-in-Init
unfolding record_after
returns-in-Init c = rw c.in-Init.is c.init.ensures

pub returns-in-Aux : goal.returns-in-Aux
unfolding record_after
returns-in-Aux c = rw c.in-Aux.is c.aux.ensures

pub returns-in-Parm : goal.returns-in-Parm
unfolding record_after
returns-in-Parm c = rw c.in-Parm.is c.parm.ensures

pub returns-in-At : goal.returns-in-At
unfolding record_after
returns-in-At c = rw c.in-At.is c.coordinate.ensures

pub returns-in-Img : goal.returns-in-Img
unfolding record_after
returns-in-Img c = rw c.in-Img.is c.img.ensures

pub returns-in-Ptrn : goal.returns-in-Ptrn
unfolding record_after
returns-in-Ptrn c = rw c.in-Ptrn.is c.transferred.ensures

pub returns-in-Reserved : goal.returns-in-Reserved
returns-in-Reserved c = refused_stays c.args.r c.in-Reserved.is
