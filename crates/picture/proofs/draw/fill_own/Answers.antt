-- `draw::fill_own` meets its contract. The invariant of its loop: j pixels are drawn, and the carried numbers are those of pixel j.
-- Assumes nothing.
use Rattle.std.proofs.Common.{◌≡◌, ℕ, ◌+◌, ◌*◌, length, ap, ◌∙◌, arith}
use Rattle.picture.specs.Place.{rows_of}
use Rattle.picture.specs.Picture.{picture}
use Rattle.picture.specs.Loops.{own_offers}
use Rattle.picture.proofs.Places.{place_below, inside_of}
use Rattle.picture.proofs.Spans.{reached_i, reached_z}
use Rattle.picture.proofs.Loops.{filling_start, filling_more, carrying_i, carrying_z}
use Rattle.picture.proofs.Strides.{stride_mine, stride_place, stride_low, own_turn}
use Rattle.picture.proofs.draw.fill_own.Goals as goal

pub loop-j-init : goal.loop-j-init
loop-j-init c = (c.place-base.ensures.0, filling_start (omega arith) (omega arith))

pub draw_one-n-requires : goal.draw_one-n-requires
draw_one-n-requires c =
    let a = c.args in
    let k = c.loop-j in
    let filling = k.invariant.1 in
    let frame = a.pen.frame in
    let rows = rows_of frame (length a.im.now) (length a.zm.now) in
    let low = stride_low a.own.x a.ways a.own.count k.j frame.line c.loop-j-test.true c.requires.2 in
    let e = ap (λ (m : ℕ). m + k.j) k.invariant.0 ∙ stride_place frame a.ways c.requires.0 a.own.x a.y k.j in
    let below = place_below frame (length a.im.now) (length a.zm.now) (a.own.x + a.ways * k.j) a.y
    (inside_of frame rows (a.own.x + a.ways * k.j) a.y low c.requires.3 (stride_mine frame a.ways c.requires.0 a.own.x k.j ∙ c.requires.1)) in
    (e, omega (arith, e, below.0, reached_i filling.so_far_lem), omega (arith, e, below.1, reached_z filling.so_far_lem), omega (arith, filling.carrying.few, filling.carrying.until))

pub loop-j-preserved : goal.loop-j-preserved
loop-j-preserved c =
    let a = c.args in
    let k = c.loop-j in
    let filling = k.invariant.1 in (
      k.invariant.0,
      filling_more filling c.loop-j-test.true c.after-i.ensures c.after-z.ensures c.draw_one-n.ensures.1
          (own_turn a.pen a.kind (a.own.x + a.ways * k.j) a.y a.own.i a.own.z k.j (picture k.im k.zm k.n)
          (carrying_i filling.carrying c.whole.ensures) (carrying_z filling.carrying c.whole-in-loop-j.ensures)
          c.draw_one-n.ensures.0),
    )

pub returns : goal.returns
unfolding own_offers
returns c =
    let k = c.loop-j in
    let e : k.j ≡ c.args.own.count = omega (arith, k.invariant.1.carrying.until, c.loop-j-test.false) in
    rw e at k.invariant.1.so_far_lem.so
