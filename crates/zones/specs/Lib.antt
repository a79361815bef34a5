pub mod Found
pub mod Body
