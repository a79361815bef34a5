pub mod Updated
pub mod Ranging
