-- `page::Page::put_bytes` meets its contract: the bytes copied into their place stand there, and the others as they were. Assumes nothing.
use Rattle.std.proofs.Common.{refl, arith}
use Rattle.report.proofs.Putting.{put_copied}
use Rattle.report.proofs.page.Page.put_bytes.Goals as goal

pub returns : goal.returns
returns c = record { put = put_copied c.requires c.copy_from_slice.ensures.after (omega arith) refl; same = refl }
