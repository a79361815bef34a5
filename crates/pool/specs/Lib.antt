pub mod Meaning
pub mod Fill
