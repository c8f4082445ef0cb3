-- `slope::pixel_of` meets its contract. Assumes nothing.
use Rattle.line.proofs.Steps.{lands_level, lands_steep, on_step}
use Rattle.line.proofs.slope.Slope.pixel_of.Goals as goal

pub moved-requires : goal.moved-requires
moved-requires c =
    let a = c.args.self in (lands_level a.a a.b a _ _ (on_step a c.requires.0) c.requires.1 c.if-self.true).across_fits

pub moved-requires-then-self : goal.moved-requires-then-self
moved-requires-then-self c =
    let a = c.args.self in (lands_level a.a a.b a _ _ (on_step a c.requires.0) c.requires.1 c.if-self.true).up_fits

pub returns-then-self : goal.returns-then-self
returns-then-self c =
    let a = c.args.self in let l = lands_level a.a a.b a _ _ (on_step a c.requires.0) c.requires.1 c.if-self.true in rw (c.moved.ensures, c.moved-then-self.ensures, l.x, l.y)

pub moved-requires-2 : goal.moved-requires-2
moved-requires-2 c =
    let a = c.args.self in (lands_steep a.a a.b a _ _ (on_step a c.requires.0) c.requires.1 c.if-self.false).across_fits

pub moved-requires-3 : goal.moved-requires-3
moved-requires-3 c =
    let a = c.args.self in (lands_steep a.a a.b a _ _ (on_step a c.requires.0) c.requires.1 c.if-self.false).up_fits

pub returns : goal.returns
returns c =
    let a = c.args.self in let l = lands_steep a.a a.b a _ _ (on_step a c.requires.0) c.requires.1 c.if-self.false in rw (c.moved-2.ensures, c.moved-3.ensures, l.x, l.y)
