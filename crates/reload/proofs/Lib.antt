-- the pixels of a region, from each to the next
pub mod Walk
-- the words that open a region are taken one after the other
pub mod Opened
-- a region saved and reloaded leaves the memories as they were, and what is stored is read back
pub mod Reloaded
