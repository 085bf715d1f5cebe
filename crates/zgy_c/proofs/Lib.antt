-- Laws of the C calls' answers.
pub mod Views
pub mod Strings
