pub mod View
pub mod Touched
pub mod Index
pub mod Tidy
pub mod Seen
