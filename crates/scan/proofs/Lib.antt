pub mod Lines
pub mod Listing
pub mod ListingZones
pub mod Scanning
