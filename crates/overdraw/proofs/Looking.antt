-- Text of the console in ASCII: a file's path. Assumes nothing.
use Rattle.std.proofs.Common.{ℕ, zero, suc, take, arith}
use Rattle.std.specs.Str.{IsAscii}
use Rattle.overdraw.specs.Text.{name_of}

-- a file's path is three digits
pub path_ascii : (k : ℕ) → IsAscii (take 3 (name_of k))
path_ascii k zero = omega arith
path_ascii k (suc zero) = omega arith
path_ascii k (suc (suc zero)) = omega arith
path_ascii k (suc (suc (suc i))) = omega arith
