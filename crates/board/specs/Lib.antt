-- the memories of a board's units
pub mod Bank
-- what a board's units are given in the place of a word that comes
pub mod Door
-- what a word does to a board of one, two or four units
pub mod Board
-- what reset, the read call and packed streams do on a board
pub mod Calls
-- how a board does beside one chip
pub mod Request
-- what a board refuses beside what one chip refuses
pub mod Refusals
