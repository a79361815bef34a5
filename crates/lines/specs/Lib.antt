pub mod Line
pub mod Meaning
