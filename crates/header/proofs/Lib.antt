pub mod Bits
pub mod Rest
