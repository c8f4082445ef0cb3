-- the chip as a machine: what it refuses, what a word leaves, and what it offers and stores
pub mod Chip
-- what SECTION changes of a word
pub mod Section
-- how the line pattern runs on along a line
pub mod Dashes
-- a worked line of three segments of unlike modes
pub mod WorkedLine
-- how a packed stream runs
pub mod Stream
-- memories that nothing was drawn on, and a recording drawn on them
pub mod Fresh
-- what the read call answers and leaves
pub mod Read
-- what the card's calls promise of a word and of a recording
pub mod Promises
-- what the order's demands 1 and 2 ask of every word and of every recording
pub mod Demands
-- what the chip promises to the units of a board
pub mod Units
