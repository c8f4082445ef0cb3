-- `next::take` meets its contract: a word of 20 bits is its command and its data. Assumes nothing.
use Rattle.std.proofs.Common.{ap, ◌∙◌, arith}
use Rattle.stream.proofs.Stream.{length_unpack}
use Rattle.stream.proofs.Round.{word_fits}
use Rattle.ground.specs.Refusal.{told}
use Rattle.registers.proofs.Words.{command_whole}
use Rattle.tracing.specs.Meaning.{meaning_of}
use Rattle.tracing.proofs.Words.{left_index, takes}
use Rattle.tracing.proofs.next.take.Goals as goal

pub move_on-requires : goal.move_on-requires
move_on-requires c =
    let a = c.args in
    omega (arith, left_index a.bytes.now (told a.run.outcome) a.run.index c.requires, length_unpack a.bytes.now, c.well_formed.1)

pub returns : goal.returns
returns c =
    let a = c.args in
    let word = c.word-word in
    let split = c.parts-command.ensures in
    let whole = split.0 ∙ command_whole word.result (omega (arith, word.ensures, word_fits a.bytes.now a.run.index)) in
    let means = c.meaning-meaning.ensures ∙ ap (meaning_of a.run.registers) (rw (whole, split.1) at c.decoded.ensures) in
    takes a.bytes.now a.run a.im.now a.zm.now c.step-answer.result word.ensures (rw (whole, split.1) at c.step-answer.ensures) means c.number_of.ensures c.passed.ensures c.move_on.ensures
