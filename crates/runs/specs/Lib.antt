pub mod Rest
pub mod Spotted
pub mod Taken
