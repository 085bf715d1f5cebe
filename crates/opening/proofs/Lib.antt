-- Laws of opening.
pub mod Header
pub mod Answers
pub mod Rules
pub mod Same
