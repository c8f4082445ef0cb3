-- words one after the other, over anything that steps
pub mod Run
-- what a machine is, and what one word does to it
pub mod Machine
-- what holds before every word that a run comes to, and the word that stops it
pub mod Along
-- where the pixels of a word and of a run pass, or are stored besides, and what stands at a place
pub mod Touched
-- what may be said of a machine's drawing before it draws
pub mod Promises
-- words one after the other, refused ones among them, and what they offer
pub mod Offers
-- runs that tell the same, and pictures that are the same pixel by pixel though they lie otherwise
pub mod Alike
-- a picture that several pairs of memories hold together, each with its columns
pub mod Shares
-- the two memories that a call is lent, as it finds them and as it leaves them
pub mod Lent
