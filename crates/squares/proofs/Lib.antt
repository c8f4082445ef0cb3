-- whether a number below a bound, or a pixel of a square, passes a test
pub mod Any
-- where a number lies in a run of numbers, and a place in a row of a picture
pub mod Among
-- numbers of a new picture are laid over an old one where a test of the place holds
pub mod Overlay
-- a square's differences are those of its rows, cut off where the picture ends
pub mod Clip
-- what remains of a square, as the code finds it
pub mod Split
-- at most 1024 squares are listed
pub mod Few
-- what each call comes to, from the tests on its way
pub mod Calls
-- a marked pixel lies in exactly one of the squares that remain, and each of these holds a marked pixel
pub mod Once
-- a place whose pixel lies in a listed square takes the new number, and every other keeps its own
pub mod Copies
-- copying a square goes row by row, each cut off where the picture ends
pub mod Rows
-- a test of each listed number is a test of each square
pub mod Lists
-- what a viewer may rely on
pub mod Viewer
