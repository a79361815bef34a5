pub mod Totalling
pub mod TotallingZones
