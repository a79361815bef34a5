pub mod Saved
pub mod Recalled
pub mod Table
pub mod Answers
pub mod Beginning
pub mod Finding
pub mod Saving
