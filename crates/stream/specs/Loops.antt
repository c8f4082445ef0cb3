-- What the code leans on. No promise of a public call cites anything here.
use Rattle.std.specs.Prelude.{ℕ, ◌+◌, ◌*◌, ◌/◌, ◌%◌}

-- the first 32 bits of two words, as one number
abbrev pub pair_front : ℕ → ℕ → ℕ
pair_front v w = v % 1048576 * 4096 + w / 256 % 4096

-- the first 64 bits of four words, as one number
abbrev pub group_front : ℕ → ℕ → ℕ → ℕ → ℕ
group_front a b c d = a % 1048576 * 17592186044416 + b % 1048576 * 16777216 + c % 1048576 * 16 + d / 65536 % 16
