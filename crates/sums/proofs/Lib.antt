pub mod Fed
pub mod Range
