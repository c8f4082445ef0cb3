-- `dextolumen_mend` meets its contract: each way out is a case of the definition (proofs/Calls). Assumes nothing.
use native.Mathlib.Omega.{arith}
use Rattle.machine.specs.Machine.{memories}
use Rattle.mending.specs.Sort.{Room}
use Rattle.mending.proofs.Calls.{kept_few, count_low, mend_unlike, mend_short, room_told, mend_done}
use Rattle.mending.proofs.dextolumen_mend.Goals as goal

pub returns-then-im-zm : goal.returns-then-im-zm
returns-then-im-zm c = mend_unlike _ _ _ _ _ c.refusing.ensures c.if-im-zm.true

pub overflow_mul-size : goal.overflow_mul-size
overflow_mul-size c =
    omega (arith, c.kept-count.ensures, kept_few c.args.bytes.now)

pub overflow_add-size : goal.overflow_add-size
overflow_add-size c =
    omega (arith, c.kept-count.ensures, kept_few c.args.bytes.now)

pub overflow_sub-dropped : goal.overflow_sub-dropped
overflow_sub-dropped c = count_low _ c.kept-count.ensures c.held.ensures

pub returns-then-out-size : goal.returns-then-out-size
returns-then-out-size c =
    let a = c.args in
    mend_short _ _ _ _ (memories a.im.now a.zm.now) c.if-im-zm.false c.kept-count.ensures c.held.ensures
    c.refusing-then-out-size.ensures c.if-out-size.true

pub sort-requires : goal.sort-requires
sort-requires c =
    let room : let a = c.args in Room a.bytes.now a.out.now a.indices.now a.numbers.now =
    let a = c.args in
    room_told _ _ _ _ (memories a.im.now a.zm.now) c.if-im-zm.false c.kept-count.ensures
    c.held.ensures c.if-out-size.false in
    room

pub returns : goal.returns
returns c =
    mend_done _ _ _ _ _ c.if-im-zm.false c.kept-count.ensures
    c.held.ensures c.if-out-size.false
    c.sort.ensures c.run.ensures c.cut_bits.ensures c.half_cleared.ensures
