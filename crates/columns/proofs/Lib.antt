pub mod Storing
pub mod Rows
pub mod Pages
pub mod Counting
