-- numbers and their bits, in both directions
pub mod Bits
-- numbers of k bits back to back, and the row of bits cut into numbers again
pub mod Cut
-- streams by five bytes and two words
pub mod Stream
-- what the code's shifts and masks come to
pub mod Masks
-- a result is written over the front of a list, some places at a time
pub mod Filling
-- what each call comes to, from the tests on its way
pub mod Calls
-- the round trips, over the definitions
pub mod Round
-- the promises of the calls settle one outcome each, the round trips, and that the entries for C see what `unpack` writes
pub mod Settled
