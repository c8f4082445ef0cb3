-- `digits::value` meets its contract. The invariant of its loop: the number so far, with the bytes that are left, tells what all bytes tell. Assumes nothing.
use Rattle.std.proofs.Common.{◌≡◌, ◌≤◌, min, drop}
use Rattle.console.specs.Digits.{value_of}
use Rattle.console.proofs.digits.value.Given as goal

abbrev pub invariant-loop-byte : goal.invariant-loop-byte
invariant-loop-byte l = record {
  few : l.n ≤ l.most;
  told : min (value_of l.n (drop l.byte-index l.arg)) l.most ≡ min (value_of 0 l.arg) l.most;
}
