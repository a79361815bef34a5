pub mod ErrorExamples
pub mod Errors
pub mod Places
pub mod Lines
