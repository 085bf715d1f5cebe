-- Laws of making.
pub mod Bytes
pub mod Pieces
pub mod Sizes
pub mod Files
pub mod Fields
pub mod Entries
pub mod Opens
