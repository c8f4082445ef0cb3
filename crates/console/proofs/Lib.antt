-- the promises of `recording`, `words` and `blank` settle one array each
pub mod Settled
pub mod Front
pub mod Arguments
pub mod Ascii
