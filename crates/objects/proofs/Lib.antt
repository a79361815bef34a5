pub mod Behind
pub mod Feeding
pub mod Naming
