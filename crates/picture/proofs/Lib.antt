-- each layout by itself: where its rows end, and that a pixel has a place of its own below that end
pub mod Layouts
-- where pixels lie: one inside the memory has a place of its own, below the lent lengths
pub mod Places
-- what offers one after the other do: they may be drawn in two parts, the count is apart from the memories, and lengths are kept
pub mod Fold
-- offers laid end to end: where nothing is offered, and how a loop goes through them
pub mod Spans
-- what a place sees of a fold: its own offers, and no others
pub mod Cells
-- what is offered of a pixel, what it stores, and when it passes
pub mod Offers
-- a run of pixels of one row: what is offered of it, and how its numbers are carried
pub mod Rows
-- how a loop goes through pixels one after the other, with numbers that are carried from each to the next
pub mod Loops
-- a quotient is told by a number near it
pub mod Near
-- what holds of each offer of a figure: it lies inside the memory, it is of the figure's kind, and no number exceeds the vertices'
pub mod Members
-- where pixels pass, and what that leaves of the count, of every other place and of a memory that none may store into
pub mod Passed
-- the promises of drawing calls settle one outcome each
pub mod Settled
-- what stores do: lengths and count are kept, a place sees its own, and some memories are left whole
pub mod Stores
-- what a unit of a board has of a row, and how numbers are carried over its columns
pub mod Strides
-- how a loop goes through pixels of which nothing but a nearer depth decides, and that these are what is drawn of a row
pub mod Runs
-- a number in some planes and in the others is the number
pub mod Planes
-- what is read of a picture after a pixel is stored, and that one stored where it was read changes nothing
pub mod Pictures
-- a run of pixels of one number: eight that are read before any is written are drawn one after the other, and those drawn twice are drawn once
pub mod Eights
