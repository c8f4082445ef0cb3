-- what an operator believes of a board's picture
pub mod Believed
