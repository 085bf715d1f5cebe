-- Laws of the words of specs/.
pub mod Loads
pub mod Search
pub mod Digits
pub mod Bytes
pub mod Cats
pub mod Puts
pub mod Parts
pub mod Blocks
