-- `scale::drawn_places` meets its contract. The invariant of its loop: the places left have what all of them have. Assumes nothing.
use Rattle.std.proofs.Common.{◌≡◌, ◌+◌, ◌-◌, suc, sym, ◌∙◌, arith}
use Rattle.report.proofs.Levels.{drawn_next, drawn_none}
use Rattle.report.proofs.scale.drawn_places.Goals as goal

pub returns-then-not-is_fresh : goal.returns-then-not-is_fresh
returns-then-not-is_fresh c =
    let a = c.args in
    let last : c.loop-place.place ≡ suc (c.loop-place.place - 1) = omega arith in
    let here : c.loop-place.place - 1 + 1 ≡ c.loop-place.place = omega arith in
    here ∙ rw c.if-not-is_fresh.true
    at (drawn_next a.im.now a.zm.now _ _ last c.number_at.ensures c.number_at-in-loop-place.ensures c.is_fresh.ensures ∙ c.loop-place.invariant)

pub loop-place-preserved : goal.loop-place-preserved
loop-place-preserved c =
    let a = c.args in
    let last : c.loop-place.place ≡ suc (c.loop-place.place - 1) = omega arith in
    rw c.if-not-is_fresh.false
    at (drawn_next a.im.now a.zm.now _ _ last c.number_at.ensures c.number_at-in-loop-place.ensures c.is_fresh.ensures ∙ c.loop-place.invariant)

pub returns : goal.returns
returns c =
    let a = c.args in
    let none : c.loop-place.place ≡ 0 = omega arith in
    sym (drawn_none a.im.now a.zm.now) ∙ rw none at c.loop-place.invariant
