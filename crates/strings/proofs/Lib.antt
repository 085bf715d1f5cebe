-- Laws of the strings of a text.
pub mod Ends
pub mod Turns
pub mod Verdicts
pub mod Fives
pub mod Parts
