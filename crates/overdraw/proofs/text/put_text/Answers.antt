-- `text::put_text` meets its contract: a text that has room is put where it is laid. Assumes nothing.
use Rattle.report.proofs.Laying.{put_lays}
use Rattle.overdraw.proofs.text.put_text.Goals as goal

pub returns : goal.returns
returns c = put_lays c.requires c.lay.ensures
