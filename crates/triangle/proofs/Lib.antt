-- laws of an edge's expression and of the numbers mixed by three of them, over bare numbers
pub mod Plane
-- which pixels are covered, and what a covered pixel is good for
pub mod Covers
-- what an edge keeps of a row, told by one number that is carried from row to row
pub mod Sides
-- two edges bound a row: the third leaves nothing outside that both keep
pub mod Flanking
-- 2 N + D at column 0 of a row is carried from row to row and leads to any covered pixel
pub mod Sums
-- numbers carried along a row as 2 ^ 48 times themselves tell the numbers of its pixels
pub mod Carry
-- the offers of a row are those of one run of pixels, and rows outside have none
pub mod Rows
-- a triangle drawn row by row is drawn in the end
pub mod Going
-- the corners are named so that they turn anticlockwise, and then from the lowest on
pub mod Turning
-- a Gouraud number lies between the least and the greatest corner number
pub mod Between
-- a pixel on an edge, strictly between its ends, is strictly inside the two other edges
pub mod Amid
-- two triangles on different sides of a shared edge never cover the same pixel, and just one covers a pixel strictly between its ends
pub mod Shared
-- a triangle offers each pixel at most once
pub mod Once
-- what a triangle offers is of its kind, with numbers no greater than its vertices', and no more than the memory has pixels
pub mod Members
-- an edge's expression is document 01's over the integers, and its test is on that integer's sign
pub mod Integers
-- no triangle whose coordinates the card takes needs divisions a pixel
pub mod Sizes
