-- `Flanks::raised` meets its contract: both edges are raised, in row `turn` with the third in the place of the one that ends. Assumes nothing.
use Rattle.std.proofs.Common.{◌+◌, sym, ◌∙◌, subst, arith}
use Rattle.triangle.specs.declared.Flanks.{Flanks}
use Rattle.triangle.specs.Loops.{Flanked}
use Rattle.triangle.proofs.Flanking.{Small, above_of, flanked_on, flanked_turn}
use Rattle.triangle.proofs.Flanks.raised.Goals as goal
use Rattle.triangle.proofs.Flanks.raised.Goals.{then-y-self, else-y-self}

pub returns : goal.returns
returns c =
    let a = c.args in
    let sa : Small a.corners.a = record { x = omega arith; y = omega arith } in
    let sb : Small a.corners.b = record { x = omega arith; y = omega arith } in
    let sc : Small a.corners.c = record { x = omega arith; y = omega arith } in
    rw (c.raised.ensures, c.raised-2.ensures)
    (elim c.if-y-self.branch [
      | then-y-self w ↦
          subst (λ (g : Flanks). Flanked a.corners (a.y + 1) (above_of g)) (sym (w.flanks-is ∙ w.taken-flanks.ensures))
          (flanked_turn a.corners sa sb sc a.y (omega arith) a.self c.requires w.if-y-self.true)
      | else-y-self w ↦
          subst (λ (g : Flanks). Flanked a.corners (a.y + 1) (above_of g)) (sym w.flanks-is)
          (flanked_on a.corners sa sb sc a.y (omega arith) a.self c.requires w.if-y-self.false)
    ])
