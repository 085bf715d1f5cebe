-- Laws of position.
pub mod Answers
