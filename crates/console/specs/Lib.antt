-- what reading standard input tells
pub mod Taken
-- arrays of one number, as the programs make room
pub mod Room
pub mod Digits
