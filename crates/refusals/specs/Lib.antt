-- what is allowed of a word's data, and which vertices fit the open figure
pub mod Allowed
-- the bounds that the fields of the register record keep
pub mod Bounds
-- the numbers that refuse a word, and those that refuse the read call
pub mod Refusal
-- which rows of the table of numbers may apply to a kind of word
pub mod Rows
