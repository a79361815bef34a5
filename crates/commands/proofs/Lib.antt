pub mod Examples
pub mod Obeying
pub mod Lines
pub mod Handing
