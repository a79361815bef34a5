pub mod Shaped
pub mod Searching
pub mod Summing
pub mod NamedAt
pub mod BodyAt
