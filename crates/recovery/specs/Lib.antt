pub mod Meaning
pub mod Advanced
