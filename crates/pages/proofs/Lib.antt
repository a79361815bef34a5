pub mod Storing
pub mod Header
