-- `half_cleared` meets its contract: 12 is told of no other stream. Assumes nothing.
use Rattle.std.proofs.Common.{ℕ, ◌≡◌, List, refl, arith}
use denote.Enum.Bare.{sameb}
use mir.Val.{bool_byte}
use Rattle.ground.specs.declared.Refusal.{Refusal}
use Rattle.ground.specs.declared.Refusal.TheVariants.{BadWord, Unsound, NotStarted, ReservedCommand, NotModelled, Awaited, NoneAwaited, NoSubcommand, NotAllowed, NoFit, BadLength, BadTail, NoRoom, NoTransfer}
use Rattle.ground.specs.contracts.Refusal.{the_type}
use Rattle.ground.specs.Refusal.{number}
use Rattle.stream.specs.Calls.{checked}
use Rattle.mending.specs.Mend.{cleared_of}
use Rattle.mending.proofs.Ends.{half_cleared, half_none}
use Rattle.mending.proofs.half_cleared.Goals as goal

-- whether a stream is refused for its tail, as a number
for_tail : (s : List ℕ) (r : Refusal) → number r ≡ checked s 0 → bool_byte (sameb the_type r BadTail) ≡ cleared_of s
for_tail s BadTail e = half_cleared s e refl
for_tail s BadWord e = half_none s e (λ z. omega arith)
for_tail s Unsound e = half_none s e (λ z. omega arith)
for_tail s NotStarted e = half_none s e (λ z. omega arith)
for_tail s ReservedCommand e = half_none s e (λ z. omega arith)
for_tail s NotModelled e = half_none s e (λ z. omega arith)
for_tail s Awaited e = half_none s e (λ z. omega arith)
for_tail s NoneAwaited e = half_none s e (λ z. omega arith)
for_tail s NoSubcommand e = half_none s e (λ z. omega arith)
for_tail s NotAllowed e = half_none s e (λ z. omega arith)
for_tail s NoFit e = half_none s e (λ z. omega arith)
for_tail s BadLength e = half_none s e (λ z. omega arith)
for_tail s NoRoom e = half_none s e (λ z. omega arith)
for_tail s NoTransfer e = half_none s e (λ z. omega arith)

pub returns-in-Err : goal.returns-in-Err
returns-in-Err c = rw (c.from.ensures, c.eq.ensures) (for_tail c.args.bytes.now c.in-Err.refusal c.in-Err.ensures)

pub returns-in-Ok : goal.returns-in-Ok
returns-in-Ok c = half_none c.args.bytes.now c.in-Ok.ensures (λ z. omega arith)
