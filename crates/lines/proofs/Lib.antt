pub mod Examples
pub mod Words
pub mod Numbers
pub mod Reading
