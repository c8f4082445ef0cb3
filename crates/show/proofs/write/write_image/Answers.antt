-- `write::write_image` meets its contract. Its loop needs no invariant: each page is asked for anew. The measure is the number of rows left. Assumes nothing.
use native.Mathlib.Omega.{arith}
use Rattle.show.proofs.Pages.{page_fits, page_low, page_some}
use Rattle.show.proofs.write.write_image.Goals as goal

pub put_page-n-requires : goal.put_page-n-requires
put_page-n-requires g c =
    rw c.page_rows-count.ensures (page_fits c.args.line c.loop-below.below c.requires)

pub overflow_sub-below : goal.overflow_sub-below
overflow_sub-below g c =
    rw c.page_rows-count.ensures (page_low c.args.line c.loop-below.below)

pub loop-below-smaller : goal.loop-below-smaller
loop-below-smaller g c =
    let some = page_some c.args.line c.loop-below.below c.requires (omega arith) (omega arith) in
    omega (arith, some, c.page_rows-count.ensures)
