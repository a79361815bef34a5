pub mod Errors
pub mod Number
pub mod Meaning
