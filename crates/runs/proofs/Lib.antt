pub mod Rest
pub mod Walking
pub mod Spotted
pub mod Going
