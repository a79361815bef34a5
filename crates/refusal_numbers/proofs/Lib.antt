pub mod Numbers
pub mod Tests
pub mod Parts
pub mod Calls
pub mod Callers
