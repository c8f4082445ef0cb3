-- `route::Route::is_in_field` meets its contract: where the memory has the pixel the window decides. Assumes nothing.
use Rattle.std.proofs.Common.{refl}
use Rattle.std.proofs.Math.Bool.{and-true, and-false}
use Rattle.line.specs.Field.{in_field}
use Rattle.line.proofs.route.Route.is_in_field.Goals as goal

pub returns-then-memory : goal.returns-then-memory
unfolding in_field
returns-then-memory c = rw (c.if-memory.true, and-true) c.is_in_window.ensures

pub returns-else-memory : goal.returns-else-memory
unfolding in_field
returns-else-memory c = rw (c.if-memory.false, and-false) refl
