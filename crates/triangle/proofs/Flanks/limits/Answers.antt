-- `Flanks::limits` meets its contract: two columns tell the row, or three cuts in a row in which an edge ends. Assumes nothing.
use Rattle.std.proofs.Common.{arith}
use Rattle.triangle.proofs.Flanking.{flank_crosses, flank_tells, tells_spanned}
use Rattle.triangle.proofs.Flanks.limits.Goals as goal

pub crossing-requires : goal.crossing-requires
crossing-requires c =
    let a = c.args in
    (flank_crosses a.corners a.y a.self c.requires.0 c.requires.1
    (record { x = omega arith; y = omega arith })
    (record { x = omega arith; y = omega arith })
    (record { x = omega arith; y = omega arith })
    (λ e. c.if-y-self.false (omega (arith, e, c.requires.1.turn)))).0

pub crossing-requires-2 : goal.crossing-requires-2
crossing-requires-2 c =
    let a = c.args in
    (flank_crosses a.corners a.y a.self c.requires.0 c.requires.1
    (record { x = omega arith; y = omega arith })
    (record { x = omega arith; y = omega arith })
    (record { x = omega arith; y = omega arith })
    (λ e. c.if-y-self.false (omega (arith, e, c.requires.1.turn)))).1

pub returns : goal.returns
returns c =
    let a = c.args in
    rw (c.max.ensures, c.min.ensures)
    (tells_spanned a.pen a.corners a.y _ _ _ (omega arith) c.min-hi.ensures
    (flank_tells a.corners a.y a.self c.requires.0 c.requires.1
    (record { x = omega arith; y = omega arith })
    (record { x = omega arith; y = omega arith })
    (record { x = omega arith; y = omega arith })
    (λ e. c.if-y-self.false (omega (arith, e, c.requires.1.turn))) _ _ c.crossing.ensures c.crossing-2.ensures))
