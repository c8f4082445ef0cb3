-- `image::put_row` meets its contract: from a memory's end on all numbers are alike. Assumes nothing.
use Rattle.std.proofs.Common.{◌*◌, arith}
use Rattle.report.specs.Image.{row_bytes}
use Rattle.report.proofs.Pages.{length_numbers, length_row, numbers_from}
use Rattle.report.proofs.image.put_row.Goals as goal

pub put_numbers-requires : goal.put_numbers-requires
put_numbers-requires c =
    let a = c.args in
    let start = c.row_start-start in
    record { from_in_bounds = omega (arith, start.ensures); count_in_bounds = omega (arith, length_numbers a.most a.memory.now start.result a.line, length_row a.most a.line a.memory.now a.y) }

pub returns : goal.returns
unfolding row_bytes
returns c =
    let a = c.args in
    rw (c.row_start-start.ensures, numbers_from a.most a.memory.now (a.y * a.line) a.line) at c.put_numbers.ensures
