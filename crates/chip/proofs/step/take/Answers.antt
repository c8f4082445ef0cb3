-- `step::take` meets its contract: each kind of word has its arm. Assumes nothing.
use Rattle.std.proofs.Common.{refl, rules}
use mathlib.Core.Logic.{inl, inr}
use Rattle.registers.specs.Next.{record_after, completed_by}
use Rattle.chip.specs.Chip.{word_stores}
use Rattle.chip.proofs.Words.{word_drawn, word_quiet, word_stored, left_as}
use Rattle.chip.proofs.step.take.Goals as goal

pub returns-in-Init : goal.returns-in-Init
unfolding record_after completed_by word_stores
returns-in-Init c =
    word_quiet _ _ _ _ refl c.requires (rw c.in-Init.is) c.quiet.ensures (rw c.in-Init.is) (rw c.in-Init.is c.init.ensures)

pub returns-in-Aux : goal.returns-in-Aux
unfolding record_after completed_by word_stores
returns-in-Aux c =
    word_quiet _ _ _ _ refl c.requires (rw c.in-Aux.is) c.quiet-in-Aux.ensures (rw c.in-Aux.is) (rw c.in-Aux.is c.aux.ensures)

pub returns-in-Parm : goal.returns-in-Parm
unfolding record_after completed_by word_stores
returns-in-Parm c =
    word_quiet _ _ _ _ refl c.requires (rw c.in-Parm.is) c.quiet-in-Parm.ensures (rw c.in-Parm.is) (rw c.in-Parm.is c.parm.ensures)

pub returns-in-At : goal.returns-in-At
unfolding record_after completed_by word_stores
returns-in-At c =
    left_as (word_drawn _ _ _ _ refl c.requires (rw c.in-At.is) (rw c.in-At.is c.completed_by.ensures) c.draw-passed.ensures.1 (rw c.in-At.is c.coordinate.ensures)) (search rules) (search rules)

pub returns-in-Img : goal.returns-in-Img
unfolding record_after completed_by word_stores
returns-in-Img c =
    word_quiet _ _ _ _ refl c.requires (rw c.in-Img.is) c.quiet-in-Img.ensures (rw c.in-Img.is) (rw c.in-Img.is c.img.ensures)

pub returns-in-Ptrn : goal.returns-in-Ptrn
unfolding record_after completed_by word_stores
returns-in-Ptrn c =
    left_as {i = c.load.new.m.i.now} {z = c.load.new.m.z.now} (word_stored _ _ _ _ refl c.requires c.quiet-in-Ptrn.ensures (rw c.in-Ptrn.is) (rw c.in-Ptrn.is c.load.ensures.1) (rw c.in-Ptrn.is c.transferred.ensures)) (search rules) (search rules)

pub returns-in-Reserved : goal.returns-in-Reserved
unfolding record_after completed_by word_stores
returns-in-Reserved c =
    elim c.in-Reserved.is [
      | inl e ↦ word_quiet _ _ _ _ refl c.requires (rw e) c.quiet-in-Reserved.ensures (rw e) (rw e)
      | inr (inl e) ↦ word_quiet _ _ _ _ refl c.requires (rw e) c.quiet-in-Reserved.ensures (rw e) (rw e)
      | inr (inr e) ↦ word_quiet _ _ _ _ refl c.requires (rw e) c.quiet-in-Reserved.ensures (rw e) (rw e)
    ]
