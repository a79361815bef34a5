pub mod Meaning
pub mod Planned
