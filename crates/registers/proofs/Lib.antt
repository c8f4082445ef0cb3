-- what INIT and LX begin
pub mod Begun
-- X and PX complete what their vertex completes, and all other words nothing
pub mod Completing
-- the parameters of a subcommand replace one part of the record, or none
pub mod Effects
-- a word does to the record in another layout what it does to the record
pub mod Layouts
-- the rule that the table of line lengths keeps
pub mod Lengths
-- a rule that holds at each entry of a list holds at every place of it
pub mod Table
-- a word of 20 bits is split whole, and of more bits no command is known
pub mod Words
