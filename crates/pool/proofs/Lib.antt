pub mod Fresh
pub mod Formatting
pub mod Mending
pub mod Repairing
pub mod Looking
pub mod LookingUp
pub mod Scrubbing
