-- a completed figure is drawn as the call that draws it promises, or is cut
pub mod Figures
-- how the outcome of a word follows from what the code of a step has found
pub mod Words
-- a pixel is stored and read as the calls that do it promise
pub mod Pixels
-- a run over a stream's words, as a loop makes it
pub mod Streams
-- the order's demands 1 and 2 are met
pub mod Demands
-- what words and runs keep, where pixels lie, and how many pass
pub mod Laws
-- over memories without places no figure draws anything
pub mod Nowhere
-- where no figure is cut a word offers what it did before SECTION, and a cut triangle offers nothing
pub mod Section
-- why the line pattern runs on along a line
pub mod Dashes
-- the worked line, as it is computed
pub mod WorkedLine
-- the promises of `step` and `run` settle one outcome each
pub mod Settled
-- what the read call tells and leaves, and the bounds that words and reads keep
pub mod Reading
-- a word in another layout offers and stores what it does over rows, of the columns that the layout has
pub mod Layouts
-- the chip's promises to the units of a board are kept
pub mod Units
