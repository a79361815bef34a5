pub mod Masks
pub mod Repaired
