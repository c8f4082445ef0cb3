-- the edges of a triangle, and the pixels that it covers
pub mod Edge
-- the numbers of a covered pixel
pub mod Number
-- what a triangle offers
pub mod Offers
-- what the code of a triangle leans on
pub mod Loops
-- what the laws about an edge that two triangles share speak of
pub mod Shared
-- document 01's expressions of a triangle, over the integers
pub mod Integers
-- the covered columns that are found in a row
pub mod Spans
