-- what the former card accepted, today's accepts
pub mod Words
-- what was offered and stored is so still
pub mod Drawing
-- no record that reset and words left on the former card lay beyond its limits
pub mod Kept
-- the former card is document 01's
pub mod Document
-- a stream that was accepted whole draws the same
pub mod Request
