-- the format of a packed stream
pub mod Format
-- what each call on packed streams tells and leaves
pub mod Calls
-- what the code leans on
pub mod Loops
