pub mod Planned
pub mod AnswerKinds
