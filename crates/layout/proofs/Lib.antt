pub mod Range
pub mod Opening
