-- the largest numbers that the card takes and uses
pub mod Limits
-- where pixels lie in the lent memories
pub mod Place
-- which pixels of a figure are offered
pub mod Offer
-- what offers do to the two memories, and which of them pass
pub mod Picture
-- the picture as one place sees it
pub mod Cell
-- where the pixels pass that are drawn over a picture
pub mod Passed
-- what the calls of this crate draw
pub mod Draw
-- what the code of a row leans on, and no promise of a public call cites
pub mod Loops
-- pixels of pictures, as they are stored and read
pub mod Store
-- what a call makes of the two memories that it is lent
pub mod Lent
