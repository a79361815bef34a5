pub mod Arrangements
pub mod Listing
pub mod Lined
