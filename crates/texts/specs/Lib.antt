pub mod Put
pub mod Adds
