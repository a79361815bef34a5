pub mod Listed
pub mod Number
