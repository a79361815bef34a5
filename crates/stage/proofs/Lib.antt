pub mod Entries
pub mod Seen
pub mod Views
pub mod Touched
pub mod Counted
pub mod Index
pub mod Asked
pub mod Pieces
