-- `write::write_levels` meets its contract: the rows that are kept stand in the memory. Assumes nothing.
use mathlib.Core.Path.{sym}
use native.Mathlib.Omega.{arith}
use Rattle.std.specs.Prelude.{is_some}
use lib.Seq.{length-take-le}
use Rattle.show.proofs.Pages.{shown_within}
use Rattle.show.proofs.write.write_levels.Goals as goal

pub overflow_mul-n : goal.overflow_mul-n
overflow_mul-n g c =
    let a = c.args in
    omega (arith, shown_within (is_some a.wanted.places) a.line a.rows a.im.now a.zm.now c.requires.line_nonzero (rw c.is_some.ensures at c.rows_shown-kept.ensures) c.requires.line_in_bounds)

pub slice_bounds-to_levels-end : goal.slice_bounds-to_levels-end
slice_bounds-to_levels-end g c =
    let a = c.args in
    shown_within (is_some a.wanted.places) a.line a.rows a.im.now a.zm.now c.requires.line_nonzero (rw c.is_some.ensures at c.rows_shown-kept.ensures) c.requires.line_in_bounds

pub slice_bounds-to_levels-end-2 : goal.slice_bounds-to_levels-end-2
slice_bounds-to_levels-end-2 g c =
    let a = c.args in
    sym (length-take-le _ _ (shown_within (is_some a.wanted.places) a.line a.rows a.im.now a.zm.now c.requires.line_nonzero (rw c.is_some.ensures at c.rows_shown-kept.ensures) c.requires.line_in_bounds))

pub slice_bounds-write_image-end : goal.slice_bounds-write_image-end
slice_bounds-write_image-end g c =
    let a = c.args in
    let room = shown_within (is_some a.wanted.places) a.line a.rows a.im.now a.zm.now c.requires.line_nonzero (rw c.is_some.ensures at c.rows_shown-kept.ensures) c.requires.line_in_bounds in
    omega (arith, room)

pub slice_bounds-write_image-end-2 : goal.slice_bounds-write_image-end-2
slice_bounds-write_image-end-2 g c =
    let a = c.args in
    let room = shown_within (is_some a.wanted.places) a.line a.rows a.im.now a.zm.now c.requires.line_nonzero (rw c.is_some.ensures at c.rows_shown-kept.ensures) c.requires.line_in_bounds in
    sym (length-take-le _ _ (omega (arith, room)))
