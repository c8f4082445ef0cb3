-- `anywhere::put_pixel` meets its contract: what the field asks is whether the pixel is offered. Assumes nothing.
use Rattle.std.proofs.Common.{length, refl, ◌∙◌}
use Rattle.picture.specs.Place.{rows_of}
use Rattle.picture.proofs.Offers.{keep_placed, keep_left}
use Rattle.line.proofs.Insides.{told_offered}
use Rattle.line.proofs.anywhere.put_pixel.Goals as goal

pub returns-then-is_within : goal.returns-then-is_within
returns-then-is_within c =
    let a = c.args in (
      c.put_placed.ensures.0,
      c.put_placed.ensures.1
          ∙ keep_placed a.pen (length a.m.now.i.now) (length a.m.now.z.now) a.kind a.vertex.x a.vertex.y a.vertex.i a.vertex.z _ a.m.now.i.now a.m.now.z.now 0 refl refl
          (told_offered a.pen (rows_of a.pen.frame (length a.m.now.i.now) (length a.m.now.z.now)) a.kind a.vertex.x a.vertex.y (rw c.in-Some.is at c.requires) c.is_within.ensures ∙ c.if-is_within.true)
          c.place-at.ensures.0,
    )

pub returns : goal.returns
returns c = let a = c.args in (
  (refl, refl),
  keep_left a.pen (rows_of a.pen.frame (length a.m.now.i.now) (length a.m.now.z.now)) a.kind a.vertex.x a.vertex.y a.vertex.i a.vertex.z _
      (told_offered a.pen (rows_of a.pen.frame (length a.m.now.i.now) (length a.m.now.z.now)) a.kind a.vertex.x a.vertex.y (rw c.in-Some.is at c.requires) c.is_within.ensures ∙ c.if-is_within.false),
)
