-- `file::text_of` is safe: bytes in ASCII are text. Assumes nothing.
use Rattle.std.proofs.lemmas.Str.{IsUtf8-from_ascii}
use Rattle.std.proofs.Common.{rules}
use Rattle.overdraw.proofs.file.text_of.Goals as goal

pub unwrap-requires : goal.unwrap-requires
unwrap-requires c = search (rules, IsUtf8-from_ascii _ c.requires)
