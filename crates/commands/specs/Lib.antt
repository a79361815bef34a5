pub mod Obey
pub mod Lines
pub mod Meaning
