pub mod Put
pub mod Decimal
pub mod Adds
