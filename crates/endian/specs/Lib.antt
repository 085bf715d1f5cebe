-- The words that every promise of the library is stated in.
pub mod Loops
pub mod Bytes
