pub mod Calls
pub mod DoneOnly
pub mod Saving
pub mod Uncut
pub mod Recovering
pub mod Saved
pub mod TakenBack
