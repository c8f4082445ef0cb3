-- `sort::put_words` meets its contract: the part behind the pairs is packed, and comes back whole. Assumes nothing.
use Rattle.mending.proofs.Sorting.{put_odd}
use Rattle.mending.proofs.sort.put_words.Goals as goal

pub returns : goal.returns
returns c = put_odd _ _ _ c.requires.odd c.requires.words_value c.requires.words_in_bounds c.pack.result c.pack.ensures
