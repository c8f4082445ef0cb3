-- the squares of side 8 that hold what a test of pixels marks
pub mod Squares
-- where two pictures of one size differ
pub mod Change
-- what a viewer does with listed squares
pub mod Copy
-- what the two calls for viewers tell and leave
pub mod Calls
-- what the code that splits a square leans on
pub mod Room
