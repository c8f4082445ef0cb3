-- what a command and its data mean
pub mod Word
-- the line lengths that INIT may choose
pub mod Lines
-- the subcommands of AUX, and IMG, with how many parameters each takes
pub mod Subcommand
-- the parts of the register record, and what INIT and reset set in them
pub mod Record
-- how a picture's region goes from pixel to pixel
pub mod Region
-- what a vertex makes of the open figure, and what it completes
pub mod Figure
-- the record after an accepted word, and the figure that the word completes
pub mod Next
