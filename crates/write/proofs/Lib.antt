pub mod Right
pub mod CheckWord
pub mod Words
pub mod Planned
