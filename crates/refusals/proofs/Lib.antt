-- behind an accepted word an INIT was accepted
pub mod Begun
-- what is so of each parameter that has come, and of one more
pub mod Came
-- chains of tests hold where all of them do
pub mod Chains
-- what the table of numbers asks of a word, told by its command and data
pub mod Commands
-- INIT turns both write enables off, and a parameter of HCONTROL alone turns one on
pub mod Enables
-- the line lengths of the table keep the bounds, in every layout
pub mod Frames
-- no record that reset, words and reads leave breaks a bound
pub mod Kept
-- a word and the read call get the same number in every layout
pub mod Layouts
-- a number is given exactly when its row applies and no row above it does
pub mod Refusals
-- nothing stands parked or open that no word will read
pub mod Tidy
-- the vertices of what an accepted word completes have coordinates up to the largest
pub mod Vertices
