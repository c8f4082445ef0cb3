-- What a call makes of the two memories and the page that it is lent: said of these once, for the contracts.
use denote.Triple.Both.{Both}
use Rattle.std.specs.Prelude.{◌≡◌, ℕ, List}
use Rattle.std.specs.Borrow.{Bor}
use Rattle.picture.specs.Lent.{Lent}
use Rattle.chip.specs.declared.run.Ran.{Ran as Running}
use Rattle.report.specs.declared.page.Page.{Page}
use Rattle.tracing.specs.Trace.{Run, standing, Turns}

-- the run so far, over the memories as they were found
abbrev pub so_far : Running → Lent → Lent → Run
so_far a im zm = standing a im.entry.now zm.entry.now

-- the next word was taken, and its line, which the bytes and the run so far make, laid on a page
abbrev pub Turned : {X : Type 0} → (List ℕ → Run → List ℕ) → Both (Bor (List ℕ)) X → Running → Lent → Lent → Page → Page → Running → Type 0
Turned line bytes a im zm old new t =
    Turns bytes.entry.now (line bytes.entry.now (so_far a im zm)) (so_far a im zm) old t im.exit.now zm.exit.now new

-- a number that follows from what the memories hold was told, and both stay as they were
pub record Counts (count : List ℕ → List ℕ → ℕ) (im zm : Lent) (n : ℕ) : Type 0 where
  pub told : n ≡ count im.entry.now zm.entry.now
  pub i_stays : im.exit.now ≡ im.entry.now
  pub z_stays : zm.exit.now ≡ zm.entry.now
