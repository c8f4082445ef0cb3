-- what is believed of a board's picture is so
pub mod Believed
