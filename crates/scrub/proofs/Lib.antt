pub mod Counting
pub mod CountingZones
