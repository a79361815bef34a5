pub mod Reading
pub mod Fits
pub mod After
pub mod Obeyed
