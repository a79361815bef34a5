pub mod Targets
pub mod Places
pub mod Logs
pub mod Opening
