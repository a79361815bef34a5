pub mod Setups
pub mod Table
pub mod Found
