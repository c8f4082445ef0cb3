-- `draw::fill` meets its contract. The invariant of its loop: the pixels before column x are drawn, and the carried numbers are those of column x.
-- Assumes nothing.
use Rattle.std.proofs.Common.{◌≡◌, ℕ, ◌+◌, ◌-◌, ◌<◌, Bool, cond, length, ap, ◌∙◌, ap₂, arith}
use Rattle.picture.specs.Place.{rows_of}
use Rattle.picture.specs.Picture.{picture}
use Rattle.picture.specs.Loops.{along_tiles}
use Rattle.picture.specs.Draw.{span_offers}
use Rattle.picture.proofs.Places.{place_below, along_place, inside_of, whole_mine}
use Rattle.picture.proofs.Spans.{reached_i, reached_z}
use Rattle.picture.proofs.Rows.{row_turn}
use Rattle.picture.proofs.Loops.{filling_start, filling_more, carrying_i, carrying_z}
use Rattle.picture.proofs.draw.fill.Goals as goal

pub loop-x-init : goal.loop-x-init
loop-x-init c =
    let s = c.args.s in
    let none : s.lo - s.lo ≡ 0 = omega arith in
    record { from = omega arith; row = c.place-base.ensures.0; in_tiles = c.lies_tiled-tiled.ensures; filling = rw none (filling_start (omega arith) (omega arith)) }

pub draw_one-n-requires : goal.draw_one-n-requires
draw_one-n-requires c =
    let a = c.args in
    let k = c.loop-x in
    let filling = k.invariant.filling in
    let h : k.x < a.pen.frame.line = omega (arith, c.loop-x-test.true, c.requires.1) in
    let e = ap₂ (λ (m n : ℕ). m + n) k.invariant.row (c.along.ensures.0 ∙ ap (λ (b : Bool). cond b (along_tiles k.x) k.x) k.invariant.in_tiles) ∙ along_place a.pen.frame k.x c.requires.3 a.s.y in
    let below = place_below a.pen.frame (length a.im.now) (length a.zm.now) k.x a.s.y
    (inside_of a.pen.frame (rows_of a.pen.frame (length a.im.now) (length a.zm.now)) k.x a.s.y h c.requires.2 (whole_mine a.pen.frame k.x c.requires.3)) in
    (e, omega (arith, e, below.0, reached_i filling.so_far_lem), omega (arith, e, below.1, reached_z filling.so_far_lem), omega (arith, filling.carrying.few, filling.carrying.until))

pub loop-x-preserved : goal.loop-x-preserved
loop-x-preserved c =
    let a = c.args in
    let s = a.s in
    let k = c.loop-x in
    let filling = k.invariant.filling in
    let rows = rows_of a.pen.frame (length a.im.now) (length a.zm.now) in
    let from = k.invariant.from in
    let here : s.lo + (k.x - s.lo) ≡ k.x = omega (arith, from) in
    let on : k.x + 1 - s.lo ≡ k.x - s.lo + 1 = omega (arith, from) in
    record {
      from = omega (arith, from);
      row = k.invariant.row;
      in_tiles = k.invariant.in_tiles;
      filling =
          rw on
          (filling_more filling (omega (arith, from, c.loop-x-test.true)) c.after-i.ensures c.after-z.ensures c.draw_one-n.ensures.1
          (row_turn a.pen rows a.kind s.lo s.y s.i s.z (k.x - s.lo) (picture k.im k.zm k.n)
          (rw here (inside_of a.pen.frame rows k.x s.y (omega (arith, c.loop-x-test.true, c.requires.1)) c.requires.2 (whole_mine a.pen.frame k.x c.requires.3)))
          (carrying_i filling.carrying c.whole.ensures) (carrying_z filling.carrying c.whole-in-loop-x.ensures)
          (rw here c.draw_one-n.ensures.0)));
    }

pub returns : goal.returns
unfolding span_offers
returns c =
    let k = c.loop-x in
    let s = c.args.s in
    let e : k.x - s.lo ≡ s.hi - s.lo = omega (arith, k.invariant.filling.carrying.until, c.loop-x-test.false) in
    rw e at k.invariant.filling.so_far_lem.so
