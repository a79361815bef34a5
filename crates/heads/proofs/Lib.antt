pub mod Digits
pub mod HeadWords
