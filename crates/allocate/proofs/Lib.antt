pub mod Body
pub mod Rows
pub mod Placed
pub mod Fitting
