pub mod Actions
pub mod Parts
