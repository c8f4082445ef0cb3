-- what the door sends on is what is said of the decoded word
pub mod Sent
-- the parts of a board's units in a word, as the code finds them
pub mod Parts
-- the ways out of a board's calls
pub mod Taken
-- the memories that a board is lent stay as long as they were
pub mod Lengths
-- a run over a stream's words on a board, as a loop makes it
pub mod Turns
-- the promises of a board's calls settle one outcome each
pub mod Settled
-- words and packed streams with the chips code that one chip takes
pub mod Recoded
-- a board has as many rows in use as one chip with as many places as its units together
pub mod Rows
-- a board does beside one chip as request [8] asks
pub mod Request8
-- a board refuses INIT with another code, commands that several units do not take, and memories of unlike length
pub mod Refused
