-- truth values and choices
pub mod Truth
-- a promise that is an equation settles one answer
pub mod Settled
-- the default arm of a `match` on a number has a number past all arms
pub mod Keys
-- the numbers of refusals
pub mod Numbers
