-- `pixel::watch` meets its contract: the question leaves the memories, so that the word finds them as they were. Assumes nothing.
use Rattle.std.proofs.Common.{sym, ◌∙◌}
use Rattle.tracing.proofs.Words.{turns_over, watch_over, turns_next, watch_next, takes_from, hits_word}
use Rattle.tracing.proofs.pixel.watch.Goals as goal

pub returns-then-is_over : goal.returns-then-is_over
returns-then-is_over c =
    let a = c.args in
    let e = sym c.is_over.ensures ∙ c.if-is_over.true in
    turns_over a.bytes.now a.run a.im.now a.zm.now e (watch_over a.bytes.now a.run a.im.now a.zm.now e a.pixel.x a.pixel.y)

pub returns : goal.returns
returns c =
    let a = c.args in
    let e = sym c.is_over.ensures ∙ c.if-is_over.false in
    let h = c.hits-count.ensures in
    let k = takes_from a.run h.i_stays h.z_stays c.take-taken.ensures in
    let count =
    hits_word a.bytes.now a.run.index a.pixel.x a.pixel.y a.run.registers a.im.now a.zm.now c.word-word.ensures
    c.word_of-next.ensures h.told in
    let line =
    watch_next a.bytes.now a.run a.im.now a.zm.now e k a.pixel.x a.pixel.y count c.numbers-before.ensures
    c.numbers-after.ensures in
    turns_next a.bytes.now a.run a.im.now a.zm.now e k line c.lay.ensures
