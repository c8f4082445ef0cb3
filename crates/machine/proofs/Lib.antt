-- words one after the other, over anything that steps: a turn of a loop, a run in two parts, and where a run ends
pub mod Runs
-- what a word does to a machine is told by its number, a refused one leaves all as it was, and lengths are kept
pub mod Steps
-- what a machine keeps over a run: lengths, what the registers promise, and memories that nothing may be stored into
pub mod Kept
-- a place where no pixel passes keeps its numbers, and a run's sum is the number of passed pixels modulo 2 ^ 64
pub mod Touched
-- what words leave at a place, refused ones among them, is what the offers made there leave
pub mod Offers
-- what drawing leaves at a pixel, wherever it lies, is what the offers and the stores of that pixel leave
pub mod Pixels
-- offers and stores that are dealt out to several pictures leave them together what they leave of one
pub mod Shares
-- two machines that answer each word alike answer runs alike
pub mod Alike
