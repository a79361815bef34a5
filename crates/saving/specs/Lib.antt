pub mod Saving
pub mod Meaning
pub mod TakenBack
pub mod Recovering
