pub mod Scanning
pub mod ScanningZones
