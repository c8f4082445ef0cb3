-- What SECTION changes of a word (document 02, [7]).
use Rattle.std.specs.Prelude.{◌≡◌, ◌≤◌, true, false}
use Rattle.registers.specs.declared.Registers.{Registers}
use Rattle.registers.specs.declared.word.Word.{Word}
use Rattle.registers.specs.declared.shape.Shape.TheVariants.{Line}
use Rattle.registers.specs.Record.{is_on, section_bit}
use Rattle.registers.specs.Figure.{shape_of}
use Rattle.registers.specs.Next.{record_after, completed_by, pen_of}
use Rattle.refusals.specs.Refusal.{refusal_of}
use Rattle.machine.specs.Machine.{Machine, Memories, step_of}
use Rattle.chip.specs.Chip.{is_constant, whole_offers, is_cut, word_stores, chip}

-- the chip as it was before: the same but that no figure is cut
abbrev pub uncut : Machine
uncut =
    record {
      Registers = Registers;
      Word = Word;
      refusal = refusal_of;
      next = record_after;
      pen = pen_of;
      offers = λ rows r w. whole_offers rows r (completed_by r w);
      stores = word_stores;
    }

-- a word does what it did before
abbrev pub AsBefore : Registers → Word → Memories → Type 0
AsBefore r w m = step_of chip r w m ≡ step_of uncut r w m

-- what sectioning does to a word, and what it leaves as it was
pub record Sectioned (r : Registers) (w : Word) (m : Memories) : Type 0 where
  -- cut or not: the number and the registers are those of before, so a cut triangle is a completed figure
  pub completed : ((step_of chip r w m).refusal ≡ (step_of uncut r w m).refusal) × ((step_of chip r w m).registers ≡ (step_of uncut r w m).registers)
  -- with sectioning off
  pub off : is_on section_bit r.modes.zcontrol ≡ false → AsBefore r w m
  -- with the section depth FFFF: no depth of 16 bits is greater
  pub far : r.modes.section ≡ 65535 → r.latch.z ≤ 65535 → AsBefore r w m
  -- with the Z register, the depth of a triangle that the word completes, not greater than the section depth
  pub near : r.latch.z ≤ r.modes.section → AsBefore r w m
  -- while triangles are Gouraud
  pub gouraud : is_constant r ≡ false → AsBefore r w m
  -- while a line is open
  pub line : shape_of r.figure.shape ≡ Line → AsBefore r w m
  -- a word that completes a cut triangle passes no pixel and changes no place
  pub cut : is_cut r (completed_by r w) ≡ true → ((step_of chip r w m).passed ≡ 0) × ((step_of chip r w m).memories ≡ m)
